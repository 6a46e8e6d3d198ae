-- One word by other names, and the words of several types.
use Rattle.std.specs.Prelude.{ℕ, List, map}
use Rattle.rast.specs.Tree.{Tys}
use Rattle.tree_words.specs.Renamed.{renamed_size}
use Rattle.tree_words.specs.Encode.{Token, word, name, size, token_word, tokens_all}

-- the word by other names
unfoldable pub renamed_token : {M N : Type 0} → (M → N) → Token M → Token N
renamed_token f (word k) = word k
renamed_token f (name x) = name (f x)
renamed_token f (size s) = size (renamed_size f s)

-- the encodings of types, one behind the other
unfoldable pub encode_all : Tys ℕ → List ℕ
encode_all ts = map token_word (tokens_all ts)
