-- Laws of types that were read: what a reading's parts are, that more depth changes nothing, and where a type lies.
use Prim.Native.Nat.{ℕ, zero, suc, ◌+◌, ◌≤◌, ◌<◌}
use mathlib.Core.Path.{◌≡◌, refl, ap}
use mathlib.Core.List.{List}
use native.Mathlib.Omega.{arith}
use lib.ListN.{length}
use Rattle.rast.specs.Bytes.{Bytes}
use Rattle.rast.specs.Tree.{Ty, Tys, TypeApp, FnType, TupleType, nil, cons, count}
use Rattle.encoding.specs.declared.Refusal.TheVariants.{EndsEarly}
use Rattle.encoding.specs.declared.Head.{Head}
use Rattle.encoding.specs.declared.Head.TheVariants.{Plain, Name, FromPath, Apply, Ref, RefMut, Impl, Dyn, Tuple, Function, Both, ArrayOf, Synonym, Meta}
use Rattle.encoding.specs.Tables.{name_bytes, name_count}
use Rattle.encoding.specs.Reading.{Reading, got, stop, ◌>>=◌}
use Rattle.encoding.specs.Heads.{read_head}
use Rattle.encoding.specs.Types.{read_types, read_node, read_type, type_at}
use Rattle.encoding.proofs.Tables.{impossible}
use Rattle.encoding.proofs.Reading.{word_end}
use Rattle.encoding.proofs.Inside.{head-lies}

-- ---- the parts of a reading

-- x was read, and then what follows it
pub record Then {A B : Type 0} (x : Reading A) (f : A → ℕ → Reading B) (b : B) (n : ℕ) : Type 0 where
  pub value : A
  pub end : ℕ
  pub first : x ≡ got value end
  pub rest : f value end ≡ got b n

pub bind-got : {A B : Type 0} (x : Reading A) (f : A → ℕ → Reading B) {b : B} {n : ℕ} → (x >>= f) ≡ got b n → Then x f b n
bind-got (got a m) f e = record { value = a; end = m; first = refl; rest = e }
bind-got (stop r) f e = impossible (cc)

-- one value was read, and something made of it
pub record Made {A B : Type 0} (x : Reading A) (f : A → B) (b : B) (n : ℕ) : Type 0 where
  pub value : A
  pub reads : x ≡ got value n
  pub made : b ≡ f value

pub made_got : {A B : Type 0} (x : Reading A) (f : A → B) {b : B} {n : ℕ} → (x >>= λ a m. got (f a) m) ≡ got b n → Made x f b n
made_got (got a m) f {b} {n} e = let q : m ≡ n = cc in record { value = a; reads = ap (got a) q; made = cc }
made_got (stop r) f e = impossible (cc)

-- x and then y were read, and something made of the two
pub record Made₂ {A B C : Type 0} (x : Reading A) (y : ℕ → Reading B) (f : A → B → C) (c : C) (n : ℕ) : Type 0 where
  pub left : A
  pub middle : ℕ
  pub right : B
  pub reads : x ≡ got left middle
  pub reads₂ : y middle ≡ got right n
  pub made : c ≡ f left right

pub made₂-got : {A B C : Type 0} (x : Reading A) (y : ℕ → Reading B) (f : A → B → C) {c : C} {n : ℕ}
    → (x >>= λ a p. y p >>= λ b m. got (f a b) m) ≡ got c n → Made₂ x y f c n
made₂-got x y f e =
    let t = bind-got x _ e in
    let m = made_got (y t.end) (f t.value) t.rest in
    record { left = t.value; middle = t.end; right = m.value; reads = t.first; reads₂ = m.reads; made = m.made }

-- ---- more depth

-- what f reads, g reads too
abbrev Extends : {A : Type 0} → (ℕ → Reading A) → (ℕ → Reading A) → Type 0
Extends {A} f g = (p : ℕ) (a : A) (n : ℕ) → f p ≡ got a n → g p ≡ got a n

extend : {A B : Type 0} (x y : Reading A) (f g : A → ℕ → Reading B) {b : B} {n : ℕ}
    → ((a : A) (m : ℕ) → x ≡ got a m → y ≡ got a m) → ((a : A) (m : ℕ) (c : B) (k : ℕ) → f a m ≡ got c k → g a m ≡ got c k)
    → (x >>= f) ≡ got b n → (y >>= g) ≡ got b n
extend x y f g {b} {n} h k e =
    let t = bind-got x f e in
    rw (h t.value t.end t.first) (k t.value t.end b n t.rest)

module _ {N : Type 0} (f g : ℕ → Reading (Ty N)) (h : Extends f g) where
  extend-types : (k : ℕ) → Extends (read_types f k) (read_types g k)
  unfolding read_types
  extend-types zero p ts n e = e
  extend-types (suc k) p ts n e =
      extend (f p) (g p) _ _ (h p)
      (λ t m us r. extend (read_types f k m) (read_types g k m) _ _ (extend-types k m) (λ vs j c q d. d)) e

  extend-one : {B : Type 0} (c : Ty N → B) (p : ℕ) {b : B} {n : ℕ}
      → (f p >>= λ t q. got (c t) q) ≡ got b n → (g p >>= λ t q. got (c t) q) ≡ got b n
  extend-one c p = extend (f p) (g p) _ _ (h p) (λ t m b k d. d)

  extend-two : {B : Type 0} (c : Ty N → Ty N → B) (p : ℕ) {b : B} {n : ℕ}
      → (f p >>= λ t q. f q >>= λ u r. got (c t u) r) ≡ got b n → (g p >>= λ t q. g q >>= λ u r. got (c t u) r) ≡ got b n
  extend-two c p = extend (f p) (g p) _ _ (h p) (λ t m b k d. extend-one (c t) m d)

  extend-node : (ws : List ℕ) (name : ℕ → N) (x : Head) → Extends (read_node ws name f x) (read_node ws name g x)
  unfolding read_node
  extend-node ws name (Plain w) p t n e = e
  extend-node ws name (Name x) p t n e = e
  extend-node ws name (FromPath x) p t n e = e
  extend-node ws name (Apply k) p t n e =
      extend (f p) (g p) _ _ (h p)
      (λ b m c r. extend (read_types f k m) (read_types g k m) _ _ (extend-types k m) (λ us j a q d. d)) e
  extend-node ws name Ref p t n e = extend-one _ p e
  extend-node ws name RefMut p t n e = extend-one _ p e
  extend-node ws name Impl p t n e = extend-one _ p e
  extend-node ws name Dyn p t n e = extend-one _ p e
  extend-node ws name (Tuple k) p t n e =
      extend (read_types f k p) (read_types g k p) _ _ (extend-types k p) (λ ts m c r d. d) e
  extend-node ws name (Function k) p t n e =
      extend (read_types f k p) (read_types g k p) _ _ (extend-types k p) (λ ts m c r. extend-one (FnType ts) m) e
  extend-node ws name Both p t n e = extend-two _ p e
  extend-node ws name (ArrayOf s) p t n e = extend-one _ p e
  extend-node ws name Synonym p t n e = extend-two _ p e
  extend-node ws name (Meta x) p t n e = extend-one _ p e

deeper : {N : Type 0} (b : ℕ) (ws : List ℕ) (name : ℕ → N) (deep : ℕ) → Extends (read_type b ws name deep) (read_type b ws name (suc deep))
unfolding read_type
deeper b ws name zero p t n e = impossible (cc)
deeper b ws name (suc deep) p t n e =
    extend (read_head b ws p) (read_head b ws p) _ _ (λ h m d. d)
    (λ h m u k. extend-node (read_type b ws name deep) (read_type b ws name (suc deep)) (deeper b ws name deep) ws name h m u k) e

-- a type's parts are read like the type itself
pub node-parts : {N : Type 0} (b : ℕ) (ws : List ℕ) (name : ℕ → N) (deep at : ℕ) {h : Head} {q n : ℕ} {t : Ty N}
    → read_type b ws name (suc deep) at ≡ got t n → read_head b ws at ≡ got h q
    → read_node ws name (read_type b ws name (suc deep)) h q ≡ got t n
unfolding read_type
node-parts b ws name deep at {h} {q} {n} {t} e d =
    extend-node (read_type b ws name deep) (read_type b ws name (suc deep)) (deeper b ws name deep) ws name h q t n (rw d at e)

pub node_of : (ws pairs : List ℕ) (text : Bytes) (at : ℕ) {h : Head} {q n : ℕ} {t : Ty Bytes}
    → type_at ws pairs text at ≡ got t n → read_head (name_count pairs) ws at ≡ got h q
    → read_node ws (name_bytes pairs text) (type_at ws pairs text) h q ≡ got t n
node_of ws pairs text at e d = node-parts (name_count pairs) ws (name_bytes pairs text) 63 at e d

-- ---- some types

-- one type more, behind the others
unfoldable pub snoc : {N : Type 0} → Tys N → Ty N → Tys N
snoc nil t = cons t nil
snoc (cons u us) t = cons u (snoc us t)

pub count-snoc : {N : Type 0} (ts : Tys N) (t : Ty N) → count (snoc ts t) ≡ count ts + 1
unfolding snoc count
count-snoc nil t = refl
count-snoc (cons u us) t = let k = count-snoc us t in omega (arith, k)

-- as many were read as were asked for
pub types-count : {N : Type 0} (f : ℕ → Reading (Ty N)) (n p : ℕ) {ts : Tys N} {q : ℕ} → read_types f n p ≡ got ts q → count ts ≡ n
unfolding read_types count
types-count f zero p {ts} e = let z : ts ≡ nil = cc in rw z
types-count f (suc n) p {ts} e =
    let m = made₂-got (f p) (read_types f n) cons e in
    rw m.made (ap suc (types-count f n m.middle m.reads₂))

-- ---- where a type lies

-- what f reads at a position begins there, takes at least `least` words, and ends within the words
abbrev pub Advances : {A : Type 0} → ℕ → List ℕ → (ℕ → Reading A) → Type 0
Advances {A} least ws f = (p : ℕ) (a : A) (n : ℕ) → p ≤ length ws → f p ≡ got a n → (p + least ≤ n) × (n ≤ length ws)

module _ {N : Type 0} (ws : List ℕ) (f : ℕ → Reading (Ty N)) (h : Advances 1 ws f) where
  types-advance : (k : ℕ) → Advances 0 ws (read_types f k)
  unfolding read_types
  types-advance zero p ts n l e = let q : p ≡ n = cc in (omega arith, omega arith)
  types-advance (suc k) p ts n l e =
      let m = made₂-got (f p) (read_types f k) cons e in
      let a = h p m.left m.middle l m.reads in
      let b = types-advance k m.middle m.right n a.1 m.reads₂ in
      (omega arith, b.1)

  one-advances : {B : Type 0} (c : Ty N → B) → Advances 0 ws (λ p. f p >>= λ t q. got (c t) q)
  one-advances c p b n l e =
      let m = made_got (f p) c e in
      let a = h p m.value n l m.reads in
      (omega arith, a.1)

  two-advance : {B : Type 0} (c : Ty N → Ty N → B) → Advances 0 ws (λ p. f p >>= λ t q. f q >>= λ u r. got (c t u) r)
  two-advance c p b n l e =
      let m = made₂-got (f p) f c e in
      let a = h p m.left m.middle l m.reads in
      let d = h m.middle m.right n a.1 m.reads₂ in
      (omega arith, d.1)

  node-advances : (name : ℕ → N) (x : Head) → Advances 0 ws (read_node ws name f x)
  unfolding read_node
  node-advances name (Plain w) p t n l e = let q : p ≡ n = cc in (omega arith, omega arith)
  node-advances name (Name x) p t n l e = let q : p ≡ n = cc in (omega arith, omega arith)
  node-advances name (FromPath x) p t n l e = let q : p ≡ n = cc in (omega arith, omega arith)
  node-advances name (Apply k) p t n l e =
      let m = made₂-got (f p) (read_types f k) TypeApp e in
      let a = h p m.left m.middle l m.reads in
      let d = types-advance k m.middle m.right n a.1 m.reads₂ in
      (omega arith, d.1)
  node-advances name Ref p t n l e = one-advances _ p t n l e
  node-advances name RefMut p t n l e = one-advances _ p t n l e
  node-advances name Impl p t n l e = one-advances _ p t n l e
  node-advances name Dyn p t n l e = one-advances _ p t n l e
  node-advances name (Tuple k) p t n l e =
      let m = made_got (read_types f k p) TupleType e in
      types-advance k p m.value n l m.reads
  node-advances name (Function k) p t n l e =
      let m = made₂-got (read_types f k p) f FnType e in
      let a = types-advance k p m.left m.middle l m.reads in
      let d = h m.middle m.right n a.1 m.reads₂ in
      (omega arith, d.1)
  node-advances name Both p t n l e = two-advance _ p t n l e
  node-advances name (ArrayOf s) p t n l e = one-advances _ p t n l e
  node-advances name Synonym p t n l e = two-advance _ p t n l e
  node-advances name (Meta x) p t n l e = one-advances _ p t n l e

pub type-advances : {N : Type 0} (b : ℕ) (ws : List ℕ) (name : ℕ → N) (deep : ℕ) → Advances 1 ws (read_type b ws name deep)
unfolding read_type
type-advances b ws name zero p t n l e = impossible (cc)
type-advances b ws name (suc deep) p t n l e =
    let d = bind-got (read_head b ws p) _ e in
    let k = head-lies b ws p d.first in
    let m = node-advances ws (read_type b ws name deep) (type-advances b ws name deep) name d.value d.end t n k.ends d.rest in
    (omega (arith, k.starts), m.1)

pub record TypeLies (ws : List ℕ) (at n : ℕ) : Type 0 where
  pub starts : at < n
  pub ends : n ≤ length ws

pub type-lies : (ws pairs : List ℕ) (text : Bytes) (at : ℕ) {t : Ty Bytes} {n : ℕ} → at ≤ length ws → type_at ws pairs text at ≡ got t n → TypeLies ws at n
type-lies ws pairs text at {t} {n} l e =
    let a = type-advances (name_count pairs) ws (name_bytes pairs text) 64 at t n l e in
    record { starts = omega arith; ends = a.1 }

-- behind the words there is no type
pub type-end : (ws pairs text : List ℕ) (at : ℕ) → length ws ≤ at → type_at ws pairs text at ≡ stop EndsEarly
unfolding read_type read_head
type-end ws pairs text at h = rw (word_end ws at h)
