use Prim.Native.Nat.{ℕ}
use mathlib.Core.Path.{◌≡◌, ap, sym, ◌∙◌}
use mathlib.Core.List.{List}
use lib.ListN.{get_or, take, drop}
use Rattle.rast.specs.Bytes.{same}
use Rattle.sound_names.specs.Words.{letters, word_lengths}
use Rattle.encoding.proofs.Names.{same-apart}
use Rattle.sound_names.proofs.Names.{excluded-inside, excluded-length, excluded-part}
use native.Mathlib.Omega.{arith}
use Rattle.sound_names.proofs.is_excluded_word.Goals as goal

-- an entry of a table that is lent
at : {l m : List ℕ} (k : ℕ) → l ≡ m → get_or l k 0 ≡ get_or m k 0
at k = ap (λ l. get_or l k 0)

pub overflow_cast-lengths : goal.overflow_cast-lengths
overflow_cast-lengths c =
    let s = c in
    let k = s.args.k in
    omega (arith, at k s.requires.2, excluded-inside k s.requires.3)

pub returns-then-bytes-lengths : goal.returns-then-bytes-lengths
returns-then-bytes-lengths c =
    let s = c in
    let k = s.args.k in
    sym (same-apart _ _ (λ e. c.if-bytes-lengths.true (e ∙ excluded-length k s.requires.3 ∙ sym (at k s.requires.2))))

pub overflow_cast-starts : goal.overflow_cast-starts
overflow_cast-starts c =
    let s = c in
    let k = s.args.k in
    omega (arith, at k s.requires.1, excluded-inside k s.requires.3)

pub stands_at-requires : goal.stands_at-requires
stands_at-requires c =
    let s = c in
    let k = s.args.k in
    (s.requires.0, omega (arith, at k s.requires.1, at k s.requires.2, c.if-bytes-lengths.false, excluded-inside k s.requires.3))

pub returns : goal.returns
returns c =
    let s = c in
    let a = s.args in
    let k = a.k in
    let size = c.if-bytes-lengths.false ∙ at k s.requires.2 in
    c.stands_at.ensures ∙ ap (same a.bytes.now) (ap (λ n. take n (drop (get_or a.starts.now k 0) letters)) size ∙ ap (λ n. take (get_or word_lengths k 0) (drop n letters)) (at k s.requires.1) ∙ excluded-part k s.requires.3)
