-- A parser of types: a machine with a stack that takes one byte at a time, so that it needs no fuel and no lookahead.
-- It gives back the type whose text it is fed (`ParserLaws`). What it makes of a text that no sound type has is left open.
use Rattle.std.specs.Prelude.{Option, Some, None}
use Rattle.std.proofs.Common.{ℕ, Bool, cond, eqb, List, [], ◌∷◌, ◌++◌}
use Prim.Native.Char.{Char, code}
use Rattle.rast.specs.Bytes.{Bytes, ascii, same}
use Rattle.rast.specs.Sound.{is_word_byte}
use Rattle.rast.specs.Tree.{Path, Global, Crate, Self, PMemberSelect, PrimitiveTy, U8, U16, U32, U64, U128, I8, I16, I32, I64, I128, USIZE, Bool·, Ty, Tys, Primitive, TIdentifier, TypeFromPath, TypeApp, Borrowed, BorrowedMut, ImplType, DynType, TupleType, FnType, IntersectionType, Array, nil, cons}

-- what stands before a type. `mut` follows an `amp`; `ret ts` is the list of a function type, with its arrow
pub data Prefix : Type 0 where
  amp mut impl dyn : Prefix
  ret : Tys Bytes → Prefix

-- the type with its prefixes, the nearest first
unfoldable pub wrap : List Prefix → Ty Bytes → Ty Bytes
wrap [] t = t
wrap (amp ∷ ps) t = wrap ps (Borrowed t)
wrap (mut ∷ []) t = t
wrap (mut ∷ (p ∷ ps)) t = wrap ps (BorrowedMut t)
wrap (impl ∷ ps) t = wrap ps (ImplType t)
wrap (dyn ∷ ps) t = wrap ps (DynType t)
wrap (ret ts ∷ ps) t = wrap ps (FnType ts t)

-- ---- words

-- what a word means where a type may begin
pub data Word : Type 0 where
  primitive : PrimitiveTy → Word
  root : Path Bytes → Word
  prefix : Prefix → Word
  name : Word

-- the words that are no names, in the order of `excluded`
unfoldable pub keywords : List (Bytes × Word)
unfolding ascii
keywords =
    (ascii "u8", primitive U8) ∷ (ascii "u16", primitive U16) ∷ (ascii "u32", primitive U32) ∷ (ascii "u64", primitive U64) ∷ (ascii "u128", primitive U128)
    ∷ (ascii "i8", primitive I8) ∷ (ascii "i16", primitive I16) ∷ (ascii "i32", primitive I32) ∷ (ascii "i64", primitive I64) ∷ (ascii "i128", primitive I128)
    ∷ (ascii "usize", primitive USIZE) ∷ (ascii "bool", primitive Bool·)
    ∷ (ascii "mut", prefix mut) ∷ (ascii "impl", prefix impl) ∷ (ascii "dyn", prefix dyn)
    ∷ (ascii "crate", root Crate) ∷ (ascii "Self", root Self) ∷ []

unfoldable pub find : Bytes → List (Bytes × Word) → Word
unfolding same
find x [] = name
find x (w ∷ ws) = cond (same x w.0) w.1 (find x ws)

-- Below, a word stands behind a path and its `::`, or behind none.

unfoldable pub meaning : Option (Path Bytes) → Bytes → Word
unfolding find keywords
meaning None x = find x keywords
meaning (Some p) x = name

unfoldable pub leaf : Word → Bytes → Ty Bytes
leaf (primitive p) x = Primitive p
leaf (root p) x = TypeFromPath p
leaf (prefix p) x = TIdentifier x
leaf name x = TIdentifier x

-- the type that ends in the word
unfoldable pub ended : Option (Path Bytes) → Bytes → Ty Bytes
unfolding leaf find keywords
ended None x = leaf (find x keywords) x
ended (Some p) x = TypeFromPath (PMemberSelect p x)

rooted : Word → Path Bytes
rooted (primitive p) = Global
rooted (root p) = p
rooted (prefix p) = Global
rooted name = Global

-- the path that a colon behind the word goes on from
unfoldable pub further : Option (Path Bytes) → Bytes → Path Bytes
unfolding rooted find keywords
further None x = rooted (find x keywords)
further (Some p) x = PMemberSelect p x

-- the path that a colon with no word before it goes on from: the first of two begins at `Global`
colon : Option (Path Bytes) → Path Bytes
colon None = Global
colon (Some p) = p

-- ---- the machine

-- whose list is open
pub data Open : Type 0 where
  tuple fn : Open
  args : Ty Bytes → Open

-- what waits for the end of a type: a `+`, with its left side; a list, with the prefixes before it and its types so far; an array, with its prefixes
pub data Frame : Type 0 where
  plus : Ty Bytes → Frame
  list : Open → List Prefix → (Tys Bytes → Tys Bytes) → Frame
  array : List Prefix → Frame

-- word: in a word, with its bytes so far and the path before it; with neither a type may begin. have: behind a type. arrow: behind the list of a
-- function type. sizing: in the size of an array. over: behind the last type.
pub data State : Type 0 where
  word : Bytes → Option (Path Bytes) → List Prefix → List Frame → State
  have : Ty Bytes → List Prefix → List Frame → State
  arrow : Tys Bytes → List Prefix → List Frame → State
  sizing : Bytes → Ty Bytes → List Prefix → List Frame → State
  over : Ty Bytes → State
  fail : State

abbrev pub want : List Prefix → List Frame → State
want ps s = word [] None ps s

-- an opened list
abbrev pub begin : Open → List Prefix → List Frame → State
begin o ps s = want [] (list o ps (λ ts. ts) ∷ s)

unfoldable pub closed : Open → Tys Bytes → List Prefix → List Frame → State
closed tuple ts ps s = have (TupleType ts) ps s
closed fn ts ps s = arrow ts ps s
closed (args b) ts ps s = have (TypeApp b ts) ps s

abbrev is : Char → ℕ → Bool
is c b = eqb b (code c)

-- a closing byte with no type before it: the list is empty
shut : List Frame → State
unfolding closed
shut [] = fail
shut (plus l ∷ s) = fail
shut (list o ps k ∷ s) = closed o (k nil) ps s
shut (array ps ∷ s) = fail

-- a type, and the byte that ends it
unfoldable pub closing : ℕ → Ty Bytes → List Frame → State
unfolding closed
closing b t [] = over t
closing b t (plus l ∷ s) = closing b (IntersectionType l t) s
closing b t (list o ps k ∷ s) = cond (is "," b) (want [] (list o ps (λ ts. k (cons t ts)) ∷ s)) (closed o (k (cons t nil)) ps s)
closing b t (array ps ∷ s) = cond (is ";" b) (sizing [] t ps s) (have (Array t None) ps s)

-- a type, and the byte behind it: after a space a `+` may follow
unfoldable pub after : ℕ → Ty Bytes → List Frame → State
unfolding closing
after b t s = cond (is " " b) (have t [] s) (closing b t s)

-- a word, and a space
unfoldable pub spaced : Word → Ty Bytes → List Prefix → List Frame → State
unfolding wrap
spaced (primitive p) t ps s = have (wrap ps t) [] s
spaced (root p) t ps s = have (wrap ps t) [] s
spaced (prefix p) t ps s = want (p ∷ ps) s
spaced name t ps s = have (wrap ps t) [] s

-- a word, and a byte that goes to no word. The `(` is that of a function type: its path so far is dropped
ending : ℕ → Option (Path Bytes) → Bytes → List Prefix → List Frame → State
unfolding spaced meaning ended further closing
ending b e x ps s =
    cond (is " " b) (spaced (meaning e x) (ended e x) ps s)
    (cond (is ":" b) (word [] (Some (further e x)) ps s)
    (cond (is "<" b) (begin (args (ended e x)) ps s)
    (cond (is "(" b) (begin fn ps s)
    (closing b (wrap ps (ended e x)) s))))

-- a byte that goes to no word, with no word before it. What is left closes an empty list
opening : ℕ → Option (Path Bytes) → List Prefix → List Frame → State
unfolding colon shut
opening b e ps s =
    cond (is " " b) (word [] e ps s)
    (cond (is ":" b) (word [] (Some (colon e)) ps s)
    (cond (is "&" b) (want (amp ∷ ps) s)
    (cond (is "(" b) (begin tuple ps s)
    (cond (is "[" b) (want [] (array ps ∷ s))
    (shut s)))))

-- the machine at a byte
unfoldable pub step : State → ℕ → State
unfolding is_word_byte opening ending after
step (word [] e ps s) b = cond (is_word_byte b) (word (b ∷ []) e ps s) (opening b e ps s)
step (word (x ∷ xs) e ps s) b = cond (is_word_byte b) (word (x ∷ xs ++ (b ∷ [])) e ps s) (ending b e (x ∷ xs) ps s)
step (have t ps s) b = cond (is "+" b) (want [] (plus (wrap ps t) ∷ s)) (after b (wrap ps t) s)
step (arrow ts ps s) b = cond (is ">" b) (want (ret ts ∷ ps) s) (arrow ts ps s)
step (sizing x t ps s) b = cond (is_word_byte b) (sizing (x ++ (b ∷ [])) t ps s) (cond (is "]" b) (have (Array t (Some x)) ps s) (sizing x t ps s))
step (over t) b = over t
step fail b = fail

unfoldable pub run : Bytes → State → State
run [] q = q
run (b ∷ bs) q = run bs (step q b)

unfoldable pub result : State → Option (Ty Bytes)
result (word x e ps s) = None
result (have t ps s) = None
result (arrow ts ps s) = None
result (sizing x t ps s) = None
result (over t) = Some t
result fail = None

-- the type that has the text; the `;` ends its last type
unfoldable pub parse : Bytes → Option (Ty Bytes)
unfolding run result
parse x = result (run (x ++ ascii ";") (want [] []))
