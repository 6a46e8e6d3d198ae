-- How a field named `self` shows, and what is asked of its type.
use Rattle.std.specs.Prelude.{ℕ, ◌+◌, ◌≡◌, Bool, true, false, eqb}
use Rattle.rast.specs.Bytes.{Bytes, ascii, same, ◌and◌, ◌or◌}
use Rattle.rast.specs.Tree.{Ty, TIdentifier}
use Rattle.rast.specs.DeclarationToString.{Expand, is_self_owned, is_self_borrowed, is_self_borrowed_mut, is_underscore}
use Rattle.encoding.specs.Words.{borrowed_kind, borrowed_mut_kind}
use Rattle.encoding.specs.Refusals.{pick}
use Rattle.encoding.specs.Reading.{Reading, got}
use Rattle.text_formal.specs.declared.Receiver.{Receiver}
use Rattle.text_formal.specs.declared.Receiver.TheVariants.{ByValue, ByRef, ByMut, Typed}

-- the cases of `Formal.ToString` for a field named `self`, in their order
abbrev pub receiver_of : Ty Bytes → Receiver
receiver_of t =
    pick (is_self_owned (Expand t)) ByValue
    (pick (is_self_borrowed t) ByRef
    (pick (is_self_borrowed_mut t) ByMut
    (pick (is_underscore t) ByValue Typed)))

-- a field shows as a receiver, `self` or a borrow of it
unfoldable pub is_receiver : Bytes → Ty Bytes → Bool
is_receiver x t = same x (ascii "self") and (is_self_owned (Expand t) or is_self_borrowed t or is_self_borrowed_mut t)

-- the field named x with the type that is read does not
pub record NoReceiver (x : Bytes) (y : Reading (Ty Bytes)) : Type 0 where
  pub says : (t : Ty Bytes) (n : ℕ) → y ≡ got t n → is_receiver x t ≡ false

-- the kinds of a borrow, `&` and `&mut`
pub data BorrowKind : ℕ → Type 0 where
  shared : BorrowKind borrowed_kind
  mutable : BorrowKind borrowed_mut_kind

-- a borrow of that kind, of `Self`
abbrev pub is_self_borrowed_as : ℕ → Ty Bytes → Bool
is_self_borrowed_as kind t = pick (eqb kind borrowed_kind) (is_self_borrowed t) (is_self_borrowed_mut t)

-- the answer says whether the type that stands at `at` is `_`; it is no where no type stands there
pub record Tells (x : Reading (Ty Bytes)) (at : ℕ) (r : Bool) : Type 0 where
  pub says : (t : Ty Bytes) (n : ℕ) → x ≡ got t n → r ≡ is_underscore t
  pub there : r ≡ true → x ≡ got (TIdentifier (ascii "_")) (at + 2)
