-- Laws of the plain types' texts, which stand in one byte string, each found by a computed test.
use Prim.Native.Nat.{ℕ, ◌+◌, ◌*◌, ◌≤◌, ◌<◌}
use mathlib.Core.Path.{◌≡◌, refl}
use lib.ListN.{length, get_or, take, drop}
use Rattle.rast.specs.Bytes.{Bytes, ascii, same, ◌and◌}
use Rattle.rast.specs.Tree.{U8}
use Rattle.rast.specs.ToString.{Primitive-to_string}
use Rattle.encoding.specs.Tested.{digit_at}
use Rattle.encoding.specs.Types.{primitives}
use Rattle.encoding.proofs.Tables.{every_below, every-equal, every-at-most, every-same}

unfoldable pub plain_letters : Bytes
plain_letters = ascii "u16u32u64i16u128  i32i64i128  u8 i8 bool  usize "

-- where the text of a kind starts
unfoldable pub plain_start : ℕ → ℕ
plain_start w = 3 * digit_at 227080888656138 w

pub plain-length : (w : ℕ) → w < 12 → digit_at 76154923135794 w ≡ length (Primitive-to_string (get_or primitives w U8))
unfolding every_below digit_at primitives Primitive-to_string ascii ◌and◌
plain-length w h = every-equal (digit_at 76154923135794) (λ i. length (Primitive-to_string (get_or primitives i U8))) 12 refl w h

pub plain-short : (w : ℕ) → w < 12 → length (Primitive-to_string (get_or primitives w U8)) ≤ 5
unfolding every_below primitives Primitive-to_string ascii ◌and◌
plain-short w h = every-at-most (λ i. length (Primitive-to_string (get_or primitives i U8))) 5 12 refl w h

-- each lies within the letters
pub plain-inside : (w : ℕ) → w < 12 → plain_start w + length (Primitive-to_string (get_or primitives w U8)) ≤ 48
unfolding every_below plain_start digit_at primitives Primitive-to_string ascii ◌and◌
plain-inside w h = every-at-most (λ i. plain_start i + length (Primitive-to_string (get_or primitives i U8))) 48 12 refl w h

pub plain-part : (w : ℕ) → w < 12
    → take (length (Primitive-to_string (get_or primitives w U8))) (drop (plain_start w) plain_letters) ≡ Primitive-to_string (get_or primitives w U8)
unfolding every_below same plain_start digit_at plain_letters primitives Primitive-to_string ascii ◌and◌
plain-part w h =
    every-same (λ i. take (length (Primitive-to_string (get_or primitives i U8))) (drop (plain_start i) plain_letters)) (λ i. Primitive-to_string (get_or primitives i U8)) 12 refl w h
