-- A type's kind is the word that stands where the type begins.
use Prim.Native.Nat.{ℕ, ◌+◌, ◌<◌}
use mathlib.Core.Path.{◌≡◌, refl, sym, ◌∙◌, subst}
use mathlib.Core.Bool.{true}
use mathlib.Core.List.{List}
use borrow.Author.Tests.{eqb-true}
use lib.Dec.{ltb, eqb}
use lib.ListN.{get_or}
use Rattle.rast.specs.Bytes.{Bytes, ◌and◌}
use Rattle.rast.specs.Tree.{PrimitiveTy, U8, U16, U32, U64, U128, I8, I16, I32, I64, I128, USIZE, Bool·, Ty, Primitive, TIdentifier, TypeFromPath, TypeApp, Borrowed, BorrowedMut, ImplType, DynType, TupleType, FnType, IntersectionType, Array, TSynonym, TMetaData}
use Rattle.encoding.specs.declared.Head.{Head}
use Rattle.encoding.specs.declared.Head.TheVariants.{Plain, Name, FromPath, Apply, Ref, RefMut, Impl, Dyn, Tuple, Function, Both, ArrayOf, Synonym, Meta}
use Rattle.encoding.specs.Tables.{name_bytes, name_count}
use Rattle.encoding.specs.Reading.{Reading, got, stop, ◌>>=◌, read_word, read_below}
use Rattle.encoding.specs.Heads.{read_path, path_head, head_after, read_head}
use Rattle.encoding.specs.HeadWords.{head_kind, InsideHead}
use Rattle.encoding.specs.Types.{primitives, read_types, read_node, read_type, type_at}
use Rattle.encoding.proofs.Tables.{every_below, every-equal}
use Rattle.encoding.proofs.Inside.{Holds, holds-pick, head-behind, head-lies}
use Rattle.encoding.proofs.Types.{bind-got}

abbrev pub primitive_kind : PrimitiveTy → ℕ
primitive_kind U8 = 0
primitive_kind U16 = 1
primitive_kind U32 = 2
primitive_kind U64 = 3
primitive_kind U128 = 4
primitive_kind I8 = 5
primitive_kind I16 = 6
primitive_kind I32 = 7
primitive_kind I64 = 8
primitive_kind I128 = 9
primitive_kind USIZE = 10
primitive_kind Bool· = 11

abbrev pub kind : {N : Type 0} → Ty N → ℕ
kind (Primitive p) = primitive_kind p
kind (TIdentifier x) = 12
kind (TypeFromPath p) = 13
kind (TypeApp b ts) = 14
kind (Borrowed t) = 15
kind (BorrowedMut t) = 16
kind (ImplType t) = 17
kind (DynType t) = 18
kind (TupleType ts) = 19
kind (FnType ts t) = 20
kind (IntersectionType l r) = 21
kind (Array t s) = 22
kind (TSynonym d b) = 23
kind (TMetaData d c o) = 24

pub primitive-kind : (w : ℕ) → w < 12 → primitive_kind (get_or primitives w U8) ≡ w
unfolding every_below ◌and◌ primitives
primitive-kind w h = every-equal (λ i. primitive_kind (get_or primitives i U8)) (λ i. i) 12 refl w h

-- f of what was read is k
module _ {A : Type 0} (f : A → ℕ) (k : ℕ) where
  abbrev Is : A → ℕ → Type 0
  Is a n = f a ≡ k

  is_made : {B : Type 0} (x : Reading B) (g : B → A) → ((b : B) → f (g b) ≡ k) → Holds Is (x >>= λ b m. got (g b) m)
  is_made (got b n) g h = h b
  is_made (stop r) g h = tt

  is-made₂ : {B C : Type 0} (x : Reading B) (y : ℕ → Reading C) (g : B → C → A) → ((b : B) (c : C) → f (g b c) ≡ k)
      → Holds Is (x >>= λ b p. y p >>= λ c m. got (g b c) m)
  is-made₂ (got b p) y g h = is_made (y p) (g b) (h b)
  is-made₂ (stop r) y g h = tt

after-kind : (b : ℕ) (ws : List ℕ) (w p : ℕ) → Holds (Is head_kind w) (head_after b ws w p)
unfolding head_after path_head
after-kind b ws w p =
    let is : (k : ℕ) → eqb w k ≡ true → k ≡ w = λ k t. sym (eqb-true w k t) in
    holds-pick (Is head_kind w) (ltb w 12) _ _ (λ t. refl)
    (holds-pick (Is head_kind w) (eqb w 12) _ _ (λ t. is_made head_kind w (read_below b ws p) Name (λ x. is 12 t))
    (holds-pick (Is head_kind w) (eqb w 13) _ _ (λ t. is_made head_kind w (read_path b ws p) FromPath (λ x. is 13 t))
    (holds-pick (Is head_kind w) (eqb w 14) _ _ (λ t. is_made head_kind w (read_word ws p) Apply (λ x. is 14 t))
    (holds-pick (Is head_kind w) (eqb w 15) _ _ (λ t. is 15 t)
    (holds-pick (Is head_kind w) (eqb w 16) _ _ (λ t. is 16 t)
    (holds-pick (Is head_kind w) (eqb w 17) _ _ (λ t. is 17 t)
    (holds-pick (Is head_kind w) (eqb w 18) _ _ (λ t. is 18 t)
    (holds-pick (Is head_kind w) (eqb w 19) _ _ (λ t. is_made head_kind w (read_word ws p) Tuple (λ x. is 19 t))
    (holds-pick (Is head_kind w) (eqb w 20) _ _ (λ t. is_made head_kind w (read_word ws p) Function (λ x. is 20 t))
    (holds-pick (Is head_kind w) (eqb w 21) _ _ (λ t. is 21 t)
    (holds-pick (Is head_kind w) (eqb w 22) _ _ (λ t. is_made head_kind w (read_below (b + 1) ws p) ArrayOf (λ x. is 22 t))
    (holds-pick (Is head_kind w) (eqb w 23) _ _ (λ t. is 23 t)
    (holds-pick (Is head_kind w) (eqb w 24) _ _ (λ t. is_made head_kind w (read_below 4 ws p) Meta (λ x. is 24 t))
    tt)))))))))))))

pub head-kind : (b : ℕ) (ws : List ℕ) (at : ℕ) {h : Head} {n : ℕ} → read_head b ws at ≡ got h n → head_kind h ≡ get_or ws at 0
head-kind b ws at e = subst (Holds (Is head_kind (get_or ws at 0))) (head-behind b ws at e) (after-kind b ws (get_or ws at 0) (at + 1))

module _ {N : Type 0} (b : ℕ) (ws : List ℕ) (name : ℕ → N) (again : ℕ → Reading (Ty N)) where
  node-holds : (h : Head) → InsideHead b ws h → (p : ℕ) → Holds (Is kind (head_kind h)) (read_node ws name again h p)
  unfolding read_node
  node-holds (Plain w) i p = primitive-kind w i
  node-holds (Name x) i p = refl
  node-holds (FromPath x) i p = refl
  node-holds (Apply k) i p = is-made₂ kind 14 (again p) (read_types again k) TypeApp (λ t ts. refl)
  node-holds Ref i p = is_made kind 15 (again p) Borrowed (λ t. refl)
  node-holds RefMut i p = is_made kind 16 (again p) BorrowedMut (λ t. refl)
  node-holds Impl i p = is_made kind 17 (again p) ImplType (λ t. refl)
  node-holds Dyn i p = is_made kind 18 (again p) DynType (λ t. refl)
  node-holds (Tuple k) i p = is_made kind 19 (read_types again k p) TupleType (λ ts. refl)
  node-holds (Function k) i p = is-made₂ kind 20 (read_types again k p) again FnType (λ ts t. refl)
  node-holds Both i p = is-made₂ kind 21 (again p) again IntersectionType (λ l r. refl)
  node-holds (ArrayOf s) i p = is_made kind 22 (again p) _ (λ t. refl)
  node-holds Synonym i p = is-made₂ kind 23 (again p) again TSynonym (λ d u. refl)
  node-holds (Meta x) i p = is_made kind 24 (again p) _ (λ t. refl)

  pub node-kind : (h : Head) → InsideHead b ws h → (p : ℕ) (t : Ty N) (n : ℕ) → read_node ws name again h p ≡ got t n → kind t ≡ head_kind h
  node-kind h i p t n e = subst (Holds (Is kind (head_kind h))) e (node-holds h i p)

pub type-kind : (ws pairs : List ℕ) (text : Bytes) (at : ℕ) {t : Ty Bytes} {n : ℕ} → type_at ws pairs text at ≡ got t n → kind t ≡ get_or ws at 0
unfolding read_type
type-kind ws pairs text at {t} {n} e =
    let d = bind-got (read_head (name_count pairs) ws at) _ e in
    let own = (head-lies (name_count pairs) ws at d.first).own in
    node-kind (name_count pairs) ws (name_bytes pairs text) (read_type (name_count pairs) ws (name_bytes pairs text) 63) d.value own d.end t n d.rest
    ∙ head-kind (name_count pairs) ws at d.first
