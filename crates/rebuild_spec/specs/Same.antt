-- `==` on types: two types are equal when they are written alike, names compared by their bytes (proofs/Equality.antt: it is equality).
use Rattle.std.specs.Prelude.{Option, Some, None, ℕ, Bool, true, false, List, [], ◌∷◌, eqb}
use Rattle.rast.specs.Bytes.{Bytes, ◌and◌, same}
use Rattle.rast.specs.Tree.{Ty}
use Rattle.tree_words.specs.Renamed.{renamed}
use Rattle.tree_words.specs.Encode.{Token, word, name, size, tokens}

-- an array's size: none only with none
unfoldable pub same_size : Option Bytes → Option Bytes → Bool
same_size None None = true
same_size None (Some y) = false
same_size (Some x) None = false
same_size (Some x) (Some y) = same x y

-- one word
unfoldable pub same_token : Token Bytes → Token Bytes → Bool
same_token (word j) (word k) = eqb j k
same_token (word j) (name y) = false
same_token (word j) (size s) = false
same_token (name x) (word k) = false
same_token (name x) (name y) = same x y
same_token (name x) (size s) = false
same_token (size r) (word k) = false
same_token (size r) (name y) = false
same_token (size r) (size s) = same_size r s

unfoldable pub same_tokens : List (Token Bytes) → List (Token Bytes) → Bool
same_tokens [] [] = true
same_tokens [] (y ∷ ys) = false
same_tokens (x ∷ xs) [] = false
same_tokens (x ∷ xs) (y ∷ ys) = same_token x y and same_tokens xs ys

unfoldable pub same_type : Ty Bytes → Ty Bytes → Bool
same_type t u = same_tokens (tokens t) (tokens u)

-- the same over name numbers: `bytes` says what each stands for
unfoldable pub same_by : (ℕ → Bytes) → Ty ℕ → Ty ℕ → Bool
same_by bytes t u = same_type (renamed bytes t) (renamed bytes u)
