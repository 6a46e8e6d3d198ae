-- Laws of the tests in specs/Bytes: a conjunction is taken apart, and put together; a disjunction with what is known; equal bytes.
use Rattle.std.proofs.Common.{◌≡◌, ℕ, Bool, true, false, T, [], ◌∷◌, refl, arith, eq-eqb}
use Rattle.rast.specs.Bytes.{Bytes, ◌and◌, ◌or◌, same}

-- yes is not no
pub never : {A : Type 0} → true ≡ false → A
never e = absurd (let z : ◌≡◌ {A = ℕ} 0 1 = cc in let y : ⊥ = omega arith in y)

pub and_both : (a b : Bool) → T (a and b) → T a × T b
unfolding ◌and◌
and_both true b h = (tt, h)
and_both false b h = absurd h

pub both-and : (a b : Bool) → T a → T b → T (a and b)
unfolding ◌and◌
both-and true b h k = k
both-and false b h k = absurd h

pub and_left : (a b : Bool) → a and b ≡ true → a ≡ true
unfolding ◌and◌
and_left true b e = refl
and_left false b e = e

pub and_right : (a b : Bool) → a and b ≡ true → b ≡ true
unfolding ◌and◌
and_right true b e = e
and_right false b e = cc

pub and-true : (a : Bool) → (a and true) ≡ a
unfolding ◌and◌
and-true true = refl
and-true false = refl

pub and-false : (a : Bool) → (a and false) ≡ false
unfolding ◌and◌
and-false true = refl
and-false false = refl

pub and_assoc : (a b c : Bool) → (a and b and c) ≡ (a and (b and c))
unfolding ◌and◌
and_assoc true b c = refl
and_assoc false b c = refl

pub or-true : (a : Bool) → (a or true) ≡ true
or-true true = refl
or-true false = refl

pub or-false : (a : Bool) → (a or false) ≡ a
or-false true = refl
or-false false = refl

-- a conjunction, by what its first part is
pub and_no : {a : Bool} (b : Bool) → a ≡ false → (a and b) ≡ false
unfolding ◌and◌
and_no b e = rw e

pub and_yes : {a : Bool} (b : Bool) → a ≡ true → (a and b) ≡ b
unfolding ◌and◌
and_yes b e = rw e

-- bytes are the same as themselves
pub same_self : (a : Bytes) → same a a ≡ true
unfolding same ◌and◌
same_self [] = refl
same_self (x ∷ a) = rw (eq-eqb x x refl) (same_self a)
