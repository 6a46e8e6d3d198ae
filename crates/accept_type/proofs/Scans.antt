-- From a head's reading to the code's answer, and back.
use Prim.Native.Nat.{ℕ, ◌^◌, ◌≤◌, ◌<◌}
use mathlib.Core.Path.{◌≡◌, refl, ap, sym}
use mathlib.Core.List.{List}
use native.Mathlib.Omega.{arith}
use Rattle.encoding.specs.declared.Refusal.{Refusal}
use Rattle.encoding.specs.declared.Head.{Head}
use Rattle.encoding.specs.Reading.{Reading, got, stop}
use Rattle.encoding.specs.Tables.{name_count}
use Rattle.encoding.specs.Tested.{name_length}
use Rattle.encoding.specs.Heads.{read_head}
use Rattle.encoding.specs.HeadWords.{kids}
use Rattle.encoding.proofs.Tables.{impossible}
use Rattle.text_measure.specs.Lengths.{own_length, mode_of, exact}
use Rattle.text_measure.proofs.Steps.{OwnLeaf, OwnNode}
use Rattle.std.specs.Prelude.{Ok, Err, Result}
use Rattle.accept_type.specs.declared.Own.{Own}
use Rattle.accept_type.specs.declared.Own.TheVariants.{Leaf, Node}
use Rattle.accept_type.specs.Walks.{Scanned, leaf, node, none}

pub scanned-leaf : {x : Reading Head} (h : Head) {r : Result Own Refusal} {n : ℕ} → x ≡ got h n → r ≡ Ok (Leaf n) → kids h ≡ 0 → Scanned x r
scanned-leaf h e d k = rw d (leaf e k)

pub scanned-node : {x : Reading Head} (h : Head) {r : Result Own Refusal} {n k : ℕ} → x ≡ got h n → r ≡ Ok (Node n k) → k ≡ kids h → 0 < k → k ≤ 2 ^ 15 → Scanned x r
scanned-node h e d k some few = rw d (node e (exact k) some few)

pub scanned-stop : {x : Reading Head} {r : Result Own Refusal} {k : Refusal} → x ≡ stop k → r ≡ Err k → Scanned x r
scanned-stop e d = rw d (none e)

pub scanned-as : {x y : Reading Head} {r : Result Own Refusal} → x ≡ y → Scanned y r → Scanned x r
scanned-as e s = rw e s

-- the code has the number of names at hand
pub scanned-within : (ws pairs : List ℕ) (p : ℕ) {bound : ℕ} {r : Result Own Refusal} → bound ≡ name_count pairs → Scanned (read_head bound ws p) r → Scanned (read_head (name_count pairs) ws p) r
scanned-within ws pairs p e s = scanned-as (ap (λ n. read_head n ws p) (sym e)) s

-- the head behind an answer, as the measuring pass in mode 0 has it: whatever it adds is not counted
pub record LeafHere (ws pairs : List ℕ) (x : Reading Head) (n : ℕ) : Type 0 where
  pub bytes : ℕ
  pub own : OwnLeaf ws pairs 0 x n bytes

pub record NodeHere (ws pairs : List ℕ) (x : Reading Head) (n k : ℕ) : Type 0 where
  pub bytes : ℕ
  pub below : ℕ
  pub own : OwnNode ws pairs 0 x n k bytes below

module _ (ws pairs : List ℕ) {x : Reading Head} where
  pub leaf-here : {r : Result Own Refusal} {n : ℕ} → Scanned x r → r ≡ Ok (Leaf n) → LeafHere ws pairs x n
  leaf-here {n = n'} (leaf {h} {n} e k) d =
      let f : n' ≡ n = cc in
      rw f (record { bytes = own_length ws (name_length pairs) h; own = record { head = h; read = e; no_kids = k; same_bytes = refl; short = omega arith } })
  leaf-here (node e k o f) d = impossible (cc)
  leaf-here (none e) d = impossible (cc)

  pub node-here : {r : Result Own Refusal} {n k : ℕ} → Scanned x r → r ≡ Ok (Node n k) → NodeHere ws pairs x n k
  node-here (leaf e k) d = impossible (cc)
  node-here {n = n'} {k = k'} (node {h} {n} {k} e c o f) d =
      let en : n' ≡ n = cc in
      let ek : k' ≡ k = cc in
      rw (en, ek) (record { bytes = own_length ws (name_length pairs) h; below = mode_of h; own = record { head = h; read = e; same-kids = c; same_bytes = refl; same-below = refl; some = o; few = f; short = omega arith } })
  node-here (none e) d = impossible (cc)

pub none_here : {x : Reading Head} {r : Result Own Refusal} {k : Refusal} → Scanned x r → r ≡ Err k → x ≡ stop k
none_here (leaf e k) d = impossible (cc)
none_here (node e k o f) d = impossible (cc)
none_here {k = k} (none {r} e) d = let f : r ≡ k = cc in rw f at e
