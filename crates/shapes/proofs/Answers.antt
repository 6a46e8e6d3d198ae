-- Accept, then ask: the public answers by what is asked of the accepted type.
use Rattle.std.specs.Prelude.{Ok, Err, Result}
use Prim.Native.Nat.{ℕ, ◌≤◌}
use mathlib.Core.Path.{◌≡◌, refl, ap, sym, ◌∙◌}
use mathlib.Core.Bool.{Bool}
use mathlib.Core.List.{List}
use borrow.Author.Tests.{eq-eqb, ne_eqb}
use lib.ListN.{length}
use Rattle.rast.specs.Bytes.{Bytes}
use Rattle.rast.specs.Tree.{Ty}
use Rattle.encoding.specs.declared.Refusal.{Refusal}
use Rattle.encoding.specs.declared.Refusal.TheVariants.{LeftOver}
use Rattle.encoding.specs.Refusals.{Answer, map_answer, unless}
use Rattle.encoding.specs.Tables.{check_tables}
use Rattle.encoding.specs.Tested.{Good}
use Rattle.encoding.specs.Reading.{Reading, got, whole}
use Rattle.encoding.specs.Types.{type_at, type_of}
use Rattle.encoding.proofs.Tables.{impossible, tables-passed}
use Rattle.encoding.proofs.Answers.{given-whole}
use Rattle.encoding.specs.Scans.{ended}
use Rattle.encoding.proofs.Reading.{scan-got, scan-stop}
use Rattle.accepted_types.specs.Accepted.{Readable}
use Rattle.unwrap.specs.Asked.{Judges}
use Rattle.shapes.specs.Accepted.{acceptance}

-- ---- accepting

module _ (size : ℕ) where
  pub whole-left : (x : Reading (Ty Bytes)) {m : Result ℕ Refusal} {n : ℕ} → m ≡ ended x → m ≡ Ok n → (n ≡ size → ⊥) → Err LeftOver ≡ acceptance (whole size x)
  unfolding whole
  whole-left x {n = n} e d h = rw ((scan-got x e d).reads, ne_eqb n size h)

  pub whole-passed : (x : Reading (Ty Bytes)) {m : Result ℕ Refusal} {n : ℕ} → m ≡ ended x → m ≡ Ok n → n ≡ size → Ok tt ≡ acceptance (whole size x)
  unfolding whole
  whole-passed x {n = n} e d h = rw ((scan-got x e d).reads, eq-eqb n size h)

  pub whole-stopped : (x : Reading (Ty Bytes)) {m : Result ℕ Refusal} {r : Refusal} → m ≡ ended x → m ≡ Err r → Err r ≡ acceptance (whole size x)
  unfolding whole
  whole-stopped x e d = rw (scan-stop x e d)

unless-failed : {A : Type 0} (c : Result (Unit {0}) Refusal) (a : Answer A) {r : Refusal} → c ≡ Err r → unless c a ≡ Err r
unfolding unless
unless-failed (Ok tt) a e = impossible (cc)
unless-failed (Err k) a e = cc

unless-passed : {A : Type 0} (c : Result (Unit {0}) Refusal) (a : Answer A) → c ≡ Ok tt → unless c a ≡ a
unfolding unless
unless-passed (Ok tt) a e = refl
unless-passed (Err k) a e = impossible (cc)

pub answer-given : {A : Type 0} (a : Answer A) {c : Result (Unit {0}) Refusal} → c ≡ acceptance a → c ≡ Ok tt → (B : Type 0) → ((t : A) → a ≡ Ok t → B) → B
answer-given (Ok t) e d B k = k t refl
answer-given (Err r) e d B k = impossible (cc)

pub answer-refused : {A : Type 0} (a : Answer A) {c : Result (Unit {0}) Refusal} {r : Refusal} → c ≡ acceptance a → c ≡ Err r → a ≡ Err r
answer-refused (Ok t) e d = impossible (cc)
answer-refused (Err r) e d = cc

-- the encoding holds a type
pub record Accepted (ws pairs : List ℕ) (text : Bytes) : Type 0 where
  pub type : Ty Bytes
  pub good : Good pairs text
  pub few : length ws ≤ 8192
  pub reads : type_at ws pairs text 0 ≡ got type (length ws)
  pub is : type_of ws pairs text ≡ Ok type

module _ (ws pairs : List ℕ) (text : Bytes) where
  pub tables-failed : {c : Result (Unit {0}) Refusal} {r : Refusal} → c ≡ check_tables ws pairs text → c ≡ Err r → Err r ≡ acceptance (type_of ws pairs text)
  unfolding type_of
  tables-failed {c} {r} e d = rw (unless-failed (check_tables ws pairs text) (whole (length ws) (type_at ws pairs text 0)) (sym e ∙ d)) refl

  pub tables-whole : {c a : Result (Unit {0}) Refusal} → c ≡ check_tables ws pairs text → c ≡ Ok tt → a ≡ acceptance (whole (length ws) (type_at ws pairs text 0)) → a ≡ acceptance (type_of ws pairs text)
  unfolding type_of
  tables-whole e d k = rw (unless-passed (check_tables ws pairs text) (whole (length ws) (type_at ws pairs text 0)) (sym e ∙ d)) k

  pub accepted : {c : Result (Unit {0}) Refusal} → c ≡ acceptance (type_of ws pairs text) → c ≡ Ok tt → Accepted ws pairs text
  unfolding type_of
  accepted e d =
      answer-given (type_of ws pairs text) e d (Accepted ws pairs text) λ t i.
      let u = given-whole (check_tables ws pairs text) (length ws) (type_at ws pairs text 0) i in
      let k = tables-passed ws pairs text u.0 in
      record { type = t; good = k.good; few = k.few; reads = u.1; is = i }

  pub accepted-readable : Accepted ws pairs text → Readable (type_at ws pairs text 0)
  accepted-readable a = record { value = a.type; end = length ws; reads = a.reads }

  pub not-accepted : {c : Result (Unit {0}) Refusal} {r : Refusal} → c ≡ acceptance (type_of ws pairs text) → c ≡ Err r → type_of ws pairs text ≡ Err r
  not-accepted e d = answer-refused (type_of ws pairs text) e d

  -- ---- shapes

  -- what is asked about an accepted type
  pub ready : {c : Result (Unit {0}) Refusal} → c ≡ acceptance (type_of ws pairs text) → c ≡ Ok tt → Good pairs text × Readable (type_at ws pairs text 0)
  ready e d = let a = accepted e d in (a.good, accepted-readable a)

  module _ (g : Ty Bytes → Bool) {c : Result (Unit {0}) Refusal} (e : c ≡ acceptance (type_of ws pairs text)) where
    pub shape-answered : {b : Bool} {r : Result Bool Refusal} → c ≡ Ok tt → Judges g (type_at ws pairs text 0) b → r ≡ Ok b → r ≡ map_answer g (type_of ws pairs text)
    unfolding map_answer
    shape-answered d j k =
        let a = accepted e d in
        k ∙ rw a.is (ap (λ x. (Ok x)) (j.says a.type (length ws) a.reads))

    pub shape-refused : {r : Refusal} → c ≡ Err r → Err r ≡ map_answer g (type_of ws pairs text)
    unfolding map_answer
    shape-refused d = rw (not-accepted e d) refl
