-- Where the first argument of an application is found, and what was found.
use Rattle.std.specs.Prelude.{Option, Ok, Err, Some, None, Result}
use Rattle.std.proofs.Common.{◌≡◌, ℕ, ◌+◌, ◌-◌, ◌<◌, Bool, true, false, not, T, ltb, List, [], ◌∷◌, length, get_or, sym, refl, ap, ◌∙◌, subst, arith}
use denote.Enum.Declared.{tag_of}
use mir.Val.{has_key}
use types.Run.{OneOf, miss}
use Rattle.rast.specs.Bytes.{Bytes}
use Rattle.rast.specs.Tree.{Path, Ty, TypeFromPath, TypeApp}
use Rattle.encoding.specs.declared.PathAt.{PathAt}
use Rattle.encoding.specs.declared.Refusal.{Refusal}
use Rattle.encoding.specs.declared.Refusal.TheVariants.{EndsEarly}
use Rattle.encoding.specs.declared.Head.{Head}
use Rattle.encoding.specs.declared.Head.TheVariants.{Plain, Name, FromPath, Apply, Ref, RefMut, Impl, Dyn, Tuple, Function, Both, ArrayOf, Synonym, Meta}
use Rattle.encoding.specs.Refusals.{pick}
use Rattle.encoding.specs.Tables.{name_bytes, name_count}
use Rattle.encoding.specs.Reading.{Reading, got, stop, read_word}
use Rattle.encoding.specs.Heads.{head_after, read_head}
use Rattle.encoding.specs.HeadWords.{head_kind, InsideHead}
use Rattle.encoding.specs.Scans.{scan_of}
use Rattle.encoding.specs.Tested.{Good}
use Rattle.encoding.specs.Types.{path_of, read_types, read_node, read_type, type_at}
use Rattle.encoding.specs.contracts.Head.{the_type}
use Rattle.encoding.proofs.Tables.{impossible}
use Rattle.encoding.proofs.Reading.{read-got, read-stop}
use Rattle.encoding.proofs.Inside.{head-behind, head-lies}
use Rattle.encoding.proofs.Types.{Made₂, made_got, made₂-got, node_of, types-count}
use Rattle.encoding.proofs.TypeKinds.{kind, head-kind, node-kind}
use Rattle.accepted_types.specs.Accepted.{Readable}
use Rattle.accepted_types.proofs.Accepted.{type-here}
use Rattle.tree_words.specs.Encode.{words}
use Rattle.tree_words.specs.Places.{Place, place}
use Rattle.tree_words.proofs.Renaming.{type-words}
use Rattle.known_paths.specs.declared.Class.{Class}
use Rattle.known_paths.specs.Asked.{Finds, found}
use Rattle.known_paths.specs.Classes.{in_class, arity, first, is_of}
use Rattle.known_paths.specs.Steps.{when, argument_of}
use Rattle.known_paths.proofs.Applying.{first-other, first_count, first-base, first-class, first-is}
use Rattle.known_paths.proofs.Children.{Keeps, argument-keeps, when-keeps}

-- ---- heads

-- a head's variant goes by its kind: the first has the kinds 0 to 11, each of the others one
head-variant : (b : ℕ) (ws : List ℕ) (h : Head) → InsideHead b ws h → tag_of the_type h ≡ head_kind h - 11
head-variant b ws (Plain w) i = omega arith
head-variant b ws (Name x) i = refl
head-variant b ws (FromPath p) i = refl
head-variant b ws (Apply n) i = refl
head-variant b ws Ref i = refl
head-variant b ws RefMut i = refl
head-variant b ws Impl i = refl
head-variant b ws Dyn i = refl
head-variant b ws (Tuple n) i = refl
head-variant b ws (Function n) i = refl
head-variant b ws Both i = refl
head-variant b ws (ArrayOf s) i = refl
head-variant b ws Synonym i = refl
head-variant b ws (Meta x) i = refl

-- the variants but `Apply`, and those but `FromPath`
abbrev unapplied : List ℕ
unapplied = 0 ∷ 1 ∷ 2 ∷ 4 ∷ 5 ∷ 6 ∷ 7 ∷ 8 ∷ 9 ∷ 10 ∷ 11 ∷ 12 ∷ 13 ∷ []

abbrev pathless : List ℕ
pathless = 0 ∷ 1 ∷ 3 ∷ 4 ∷ 5 ∷ 6 ∷ 7 ∷ 8 ∷ 9 ∷ 10 ∷ 11 ∷ 12 ∷ 13 ∷ []

word_next : (ws : List ℕ) (p v : ℕ) {q : ℕ} → read_word ws p ≡ got v q → q ≡ p + 1
unfolding read_word
word_next ws p v = go (ltb p (length ws))
  where
    go : (t : Bool) {q : ℕ} → pick t (got (get_or ws p 0) (p + 1)) (stop EndsEarly) ≡ got v q → q ≡ p + 1
    go true e = cc
    go false e = impossible (cc)

-- the head that a scan gave, and the refusal
module _ (ws : List ℕ) (at : ℕ) {b bound : ℕ} {s : Result (Head × ℕ) Refusal} (i : bound ≡ b) (e : s ≡ scan_of (read_head bound ws at)) where
  pub scanned : {h g : Head} {q : ℕ} → s ≡ Ok (h, q) → h ≡ g → read_head b ws at ≡ got g q
  scanned d k = read-got (read_head b ws at) (rw i at e) (rw k at d)

  pub unscanned : {r : Refusal} → s ≡ Err r → read_head b ws at ≡ stop r
  unscanned d = read-stop (read_head b ws at) (rw i at e) d

module _ (b : ℕ) (ws : List ℕ) (at : ℕ) where
  -- a head whose variant is one of some is of no kind that another variant has
  other-kind : {h : Head} {q : ℕ} (vs : List ℕ) (k : ℕ) → T (not (has_key vs (k - 11))) → read_head b ws at ≡ got h q → OneOf vs (tag_of the_type h) → head_kind h ≡ k → ⊥
  other-kind {h} vs k m d o e = miss vs (k - 11) m (subst (OneOf vs) (head-variant b ws h (head-lies b ws at d).own ∙ ap (λ w. w - 11) e) o)

  -- an application's head ends behind the count
  apply-end : {k q : ℕ} → read_head b ws at ≡ got (Apply k) q → q ≡ at + 2
  unfolding head_after
  apply-end {k} {q} d =
      let m = made_got (read_word ws (at + 1)) Apply (rw (← head-kind b ws at d) at (head-behind b ws at d)) in
      omega (arith, word_next ws (at + 1) m.value m.reads)

-- ---- the first argument of an application, by the heads

module _ (ws pairs : List ℕ) (text : Bytes) where
  abbrev again : ℕ → Reading (Ty Bytes)
  again = type_at ws pairs text

  abbrev head_at : ℕ → Reading Head
  head_at = read_head (name_count pairs) ws

  module _ (at : ℕ) {t : Ty Bytes} {n : ℕ} (e : again at ≡ got t n) where
    -- a type has a head
    no-head : {A : Type 0} {r : Refusal} → head_at at ≡ stop r → A
    unfolding read_type
    no-head d = impossible (cc)

    kind-by : {h : Head} {q : ℕ} → head_at at ≡ got h q → kind t ≡ head_kind h
    kind-by {h} {q} d = node-kind (name_count pairs) ws (name_bytes pairs text) again h (head-lies (name_count pairs) ws at d).own q t n (node_of ws pairs text at e d)

    apply-by : {k q : ℕ} → head_at at ≡ got (Apply k) q → Made₂ (again q) (read_types again k) TypeApp t n
    unfolding read_node
    apply-by {k} {q} d = made₂-got (again q) (read_types again k) TypeApp (node_of ws pairs text at e d)

    path-by : {x : PathAt} {q : ℕ} → head_at at ≡ got (FromPath x) q → (t ≡ TypeFromPath (path_of ws (name_bytes pairs text) x)) × (n ≡ q)
    unfolding read_node
    path-by d = let k = node_of ws pairs text at e d in (cc, cc)

  module _ (at : ℕ) (class : Class) where
    pub argument-stop : {r : Refusal} → head_at at ≡ stop r → Finds (first class) again at None
    argument-stop d = record { says = λ t n e. no-head at e d }

    pub argument-other : {h : Head} {q : ℕ} → head_at at ≡ got h q → OneOf unapplied (tag_of the_type h) → Finds (first class) again at None
    argument-other d o = record {
      says = λ t n e. sym (first-other class at t λ c. other-kind (name_count pairs) ws at unapplied 14 tt d o (sym (kind-by at e d) ∙ c));
    }

    module _ {k q : ℕ} (d : head_at at ≡ got (Apply k) q) where
      pub argument-count : {r : ℕ} → r ≡ arity class → (k ≡ r → ⊥) → Finds (first class) again at None
      argument-count i m = record {
        says = λ t n e.
            let a = apply-by at e d in
            rw a.made (sym (first_count class at a.left a.right λ c. m (sym (types-count again k a.middle a.reads₂) ∙ c ∙ sym i)));
      }

      pub base-stop : {r : Refusal} → head_at q ≡ stop r → Finds (first class) again at None
      base-stop b = record { says = λ t n e. no-head q (apply-by at e d).reads b }

      pub base-other : {h : Head} {p : ℕ} → head_at q ≡ got h p → OneOf pathless (tag_of the_type h) → Finds (first class) again at None
      base-other b o = record {
        says = λ t n e.
            let a = apply-by at e d in
            rw a.made (sym (first-base class at a.left a.right λ c. other-kind (name_count pairs) ws q pathless 13 tt b o (sym (kind-by q a.reads b) ∙ c)));
      }

      -- the base is the path x, which ends at p
      module _ {x : PathAt} {p : ℕ} (b : head_at q ≡ got (FromPath x) p) where
        abbrev base : Path Bytes
        base = path_of ws (name_bytes pairs text) x

        pub argument-class : {r : Bool} → r ≡ in_class class base → r ≡ false → Finds (first class) again at None
        argument-class i c = record {
          says = λ t n e.
              let a = apply-by at e d in
              rw (a.made, (path-by q a.reads b).0) (sym (first-class class at base a.right (sym i ∙ c)));
        }

        pub argument-found : {m : ℕ} {r : Bool} → m ≡ arity class → k ≡ m → r ≡ in_class class base → r ≡ true → Finds (first class) again at (Some p)
        argument-found j l i c = record {
          says = λ t n e.
              let a = apply-by at e d in
              let y = path-by q a.reads b in
              let w : at + 2 + words a.left ≡ p = omega (arith, type-words ws pairs text q a.reads, apply-end (name_count pairs) ws at d, y.1) in
              rw (a.made, y.0) (sym (first-is class at base a.right (sym i ∙ c) (types-count again k a.middle a.reads₂ ∙ l ∙ j) ∙ ap Some (rw y.0 at w)));
        }

-- ---- what was found

-- the part f of t stands at s
pub record Located (ws pairs : List ℕ) (text : Bytes) (f : Place Bytes → Option (Place Bytes)) (at : ℕ) (t : Ty Bytes) (s : ℕ) : Type 0 where
  pub tpe : Ty Bytes
  pub end : ℕ
  pub reads : type_at ws pairs text s ≡ got tpe end
  pub is : f (place at t) ≡ Some (place s tpe)

found-place : (x : Option (Place Bytes)) {s : ℕ} → found x ≡ Some s → (A : Type 0) → ((p : Place Bytes) → x ≡ Some p → p.at ≡ s → A) → A
unfolding found
found-place None e A k = impossible (cc)
found-place (Some p) e A k = k p refl (cc)

pub found_none : (x : Option (Place Bytes)) → found x ≡ None → x ≡ None
unfolding found
found_none None e = refl
found_none (Some p) e = impossible (cc)

module _ (ws pairs : List ℕ) (text : Bytes) (at : ℕ) {t : Ty Bytes} {n : ℕ} (e : type_at ws pairs text at ≡ got t n) {f : Place Bytes → Option (Place Bytes)} where
  pub located : {r : Option ℕ} {s : ℕ} → Keeps ws pairs text f → Finds f (type_at ws pairs text) at r → r ≡ Some s → Located ws pairs text f at t s
  located {r} {s} k d i =
      found-place (f (place at t)) (sym (d.says t n e) ∙ i) (Located ws pairs text f at t s) λ p u v.
      let w = k.keeps (place at t) p (record { end = n; reads = e }) u in
      record {
        tpe = p.tpe;
        end = w.end;
        reads = ap (type_at ws pairs text) (sym v) ∙ w.reads;
        is = u ∙ ap (λ q. Some (place q p.tpe)) v;
      }

  pub nowhere : {r : Option ℕ} → Finds f (type_at ws pairs text) at r → r ≡ None → f (place at t) ≡ None
  nowhere d i = found_none (f (place at t)) (sym (d.says t n e) ∙ i)

-- ---- a first argument that was found

module _ (ws pairs : List ℕ) (text : Bytes) where
  -- an argument, if a test holds
  pub argument-kept : (b : Place Bytes → Bool) (i : ℕ) → Keeps ws pairs text (λ p. when (b p) (argument_of i p))
  argument-kept b i = record { keeps = λ p q s. when-keeps ws pairs text (b p) (argument_of i p) q ((argument-keeps ws pairs text i).keeps p q s) }

  pub first-keeps : (class : Class) → Keeps ws pairs text (first class)
  unfolding first
  first-keeps class = argument-kept (λ p. is_of class p.tpe) 0

module _ (ws pairs : List ℕ) (text : Bytes) (at : ℕ) where
  -- a part that was found can be read
  pub found-readable : {f : Place Bytes → Option (Place Bytes)} {m : Option ℕ} {s : ℕ} → Keeps ws pairs text f → Readable (type_at ws pairs text at) → Finds f (type_at ws pairs text) at m → m ≡ Some s → Readable (type_at ws pairs text s)
  found-readable k r d y =
      let l = located ws pairs text at r.reads k d y in
      record { value = l.tpe; end = l.end; reads = l.reads }

  pub found-ready : {f : Place Bytes → Option (Place Bytes)} {m : Option ℕ} {s : ℕ} → Keeps ws pairs text f → Good pairs text × Readable (type_at ws pairs text at) → Finds f (type_at ws pairs text) at m → m ≡ Some s
      → Good pairs text × Readable (type_at ws pairs text s)
  found-ready k r d y = (r.0, found-readable k r.1 d y)

  pub found_here : {f : Place Bytes → Option (Place Bytes)} {m : Option ℕ} {s : ℕ} → Keeps ws pairs text f → Readable (type_at ws pairs text at) → Finds f (type_at ws pairs text) at m → m ≡ Some s → s < length ws
  found_here {s = s} k r d y = type-here ws pairs text s (found-readable k r d y).reads
