-- Worked examples of `ReplaceMap`, by computation: what gives way, and what is not looked at again.
use mathlib.Core.Path.{◌≡◌, refl}
use mathlib.Core.List.{List, [], ◌∷◌, map}
use Rattle.rast.specs.Bytes.{Bytes, same, ◌and◌}
use Rattle.rast.specs.Tree.{U8, U16, U32, Bool·, Ty, Primitive, Borrowed, TupleType, TSynonym, nil, cons, count}
use Rattle.tree_words.specs.Encode.{primitive_word, tokens}
use Rattle.rebuild_spec.specs.Same.{same_token, same_tokens, same_type}
use Rattle.rebuild_spec.specs.Replace.{Replace, ruled, ReplaceMap}

abbrev u8 : Ty Bytes
u8 = Primitive U8

abbrev u16 : Ty Bytes
u16 = Primitive U16

abbrev u32 : Ty Bytes
u32 = Primitive U32

-- a type, the rules, and what the type becomes
unfoldable pub examples : List (Ty Bytes × List (Ty Bytes × Ty Bytes) × Ty Bytes)
examples =
    -- document 01's (g): the type that has become `&u8` gives way
    (Borrowed u16, (u16, u8) ∷ (Borrowed u8, Primitive Bool·) ∷ [], Primitive Bool·)
    -- froms are compared with the finished type
    ∷ (Borrowed u8, (u8, u16) ∷ (Borrowed u8, Primitive Bool·) ∷ [], Borrowed u16)
    ∷ (Borrowed (Borrowed u8), (Borrowed u8, u8) ∷ [], u8)
    -- a to is not searched again
    ∷ (u8, (u8, u16) ∷ (u16, u32) ∷ [], u16)
    -- every child is rebuilt, a synonym's base too
    ∷ (TupleType (cons u8 (cons u8 nil)), (u8, u16) ∷ [], TupleType (cons u16 (cons u16 nil)))
    ∷ (TSynonym u8 u8, (u8, u16) ∷ [], TSynonym u16 u16)
    ∷ []

pub all-examples : map (λ (e : Ty Bytes × List (Ty Bytes × Ty Bytes) × Ty Bytes). ReplaceMap same_type e.1 e.0) examples ≡ map (λ (e : Ty Bytes × List (Ty Bytes × Ty Bytes) × Ty Bytes). e.2) examples
unfolding examples same ◌and◌ primitive_word count tokens same_token same_tokens same_type Replace ruled ReplaceMap
all-examples = refl
