-- Worked examples of doc comments at level 0, with their text. One list, and one claim for all of it, by computation.
use Prim.Native.String.{String}
use Rattle.std.proofs.Common.{◌≡◌, List, [], ◌∷◌, map, refl}
use Rattle.rast.specs.Bytes.{Bytes, ascii, ◌and◌, same, begins}
use Rattle.rast.specs.Indent.{indent}
use Rattle.rast.specs.Doc.{is_empty_text, GatherSimpleQuotes, DocStringPrefix, at_fence, at_line_start, at_space, convert_body, convert_up_to, ConvertDocstring, ToDocstringPrefix}

unfoldable pub docs : List (String × String)
docs =
    ("", "")
    -- (j): four spaces alone stay, with a byte behind them they are marked
    ∷ ("    ", "///     \n")
    ∷ ("    x", "/// |   x\n")
    ∷ ("     ", "/// |    \n")
    ∷ ("    \n", "/// |   \n/// \n")
    -- a final newline gives a last line
    ∷ ("a\n", "/// a\n/// \n")
    -- (k): a final `rs` stays, and so does one before other bytes
    ∷ ("```rs", "/// ```rs\n")
    ∷ ("```rsx", "/// ```rsx\n")
    ∷ ("```rs\r\n", "/// ```rs\r\n/// \n")
    ∷ ("```rs ", "/// ``` \n")
    ∷ ("```rs\n", "/// ```\n/// \n")
    ∷ ("`````rs x", "/// ````` x\n")
    -- a fence without a name gains one, but not before a tab or a carriage return
    ∷ ("```", "/// ```dafny\n")
    ∷ ("```\t", "/// ```\t\n")
    ∷ ("```\r", "/// ```\r\n")
    -- spaces keep the line's start, and the mark for four of them ends it
    ∷ ("   ``` \n    x", "///    ```dafny \n///     x\n")
    ∷ ("    ``` \n    x", "/// |   ``` \n/// |   x\n")
    -- in code four spaces stay, and any number of them may stand before the closing fence
    ∷ ("```x\n    y\n     ```\n    z", "/// ```x\n///     y\n///      ```\n/// |   z\n")
    -- the opening fence's bytes close, whatever follows, and fewer do not
    ∷ ("```a\n````x\n    y", "/// ```a\n/// ````x\n/// |   y\n")
    ∷ ("````a\n```\n    y", "/// ````a\n/// ```\n///     y\n")
    -- an opening line's own later backticks do not close
    ∷ ("``` ```\n    y", "/// ```dafny ```\n///     y\n")
    -- two backticks are no fence
    ∷ ("``", "/// ``\n")
    ∷ ("``\n    y", "/// ``\n/// |   y\n")
    ∷ []

pub doc-texts : map {B = Bytes} (λ e. ToDocstringPrefix (ascii e.0) (indent 0)) docs ≡ map (λ e. ascii e.1) docs
unfolding docs ascii ◌and◌ same begins indent is_empty_text GatherSimpleQuotes DocStringPrefix at_fence at_line_start at_space convert_body convert_up_to ConvertDocstring ToDocstringPrefix
doc-texts = refl
