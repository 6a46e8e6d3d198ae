use Prim.Native.Nat.{◌+◌, ◌-◌}
use mathlib.Core.Path.{◌≡◌, refl, ap}
use Rattle.encoding.specs.Tested.{name_length}
use Rattle.encoding.specs.Reading.{read_below}
use Rattle.encoding.proofs.Reading.{handed-on, read-got, read-stop}
use Rattle.encoding.proofs.Inside.{below-there}
use Rattle.text_measure.specs.Lengths.{path_length}
use Rattle.text_measure.proofs.Lengths.{name-fits, names_more, names-none}
use Rattle.text_measure.proofs.PathNames.{names-on, path-halt, path-all}
use Rattle.text_measure.proofs.Scans.{below-got, path-read, path-unread}
use native.Mathlib.Omega.{arith}
use borrow.Author.Rules.{rules}
use Rattle.text_measure.proofs.measure_names.Goals as goal

pub name_length-requires : goal.name_length-requires
name_length-requires c =
    let s = c in
    let a = s.args in
    let l = c.loop-i in
    omega (arith, s.requires.0, (below-got a.bound a.words.now l.i c.scan_below.ensures c.in_ok-value.was).below)

pub overflow_add-bytes : goal.overflow_add-bytes
overflow_add-bytes c =
    let a = c.args in
    omega (arith, name-fits a.pairs.now (λ j. omega (arith, c.shared_slice_known-2-1.given j)) _ _ c.name_length.ensures)

pub overflow_add-bytes-in-loop-i : goal.overflow_add-bytes-in-loop-i
overflow_add-bytes-in-loop-i c =
    let s = c in
    let a = s.args in
    let l = c.loop-i in
    let n = name-fits a.pairs.now (λ j. omega (arith, c.shared_slice_known-2-1.given j)) _ _ c.name_length.ensures in
    omega (arith, l.invariant.1, l.invariant.0.inside, s.requires.1)

pub loop-i-preserved : goal.loop-i-preserved
loop-i-preserved c =
    let s = c in
    let a = s.args in
    let l = c.loop-i in
    let end = a.path.start + a.path.count in
    let e = read-got (read_below a.bound a.words.now l.i) c.scan_below.ensures c.in_ok-value.was in
    let k = below-there a.bound a.words.now l.i e in
    let n = name-fits a.pairs.now (λ j. omega (arith, c.shared_slice_known-2-1.given j)) _ _ c.name_length.ensures in
    let m = names_more (name_length a.pairs.now) a.words.now l.i end (search rules) k.here in (
      rw k.next at (names-on a.bound a.words.now a.path.start end l.i l.invariant.0 (search rules) e),
      omega (arith, l.invariant.1),
      omega (arith, l.invariant.2, m, c.name_length.ensures, ap (name_length a.pairs.now) k.same),
    )

pub returns-in_err-value : goal.returns-in_err-value
returns-in_err-value c =
    let a = c.args in
    let l = c.loop-i in
    let e = read-stop (read_below a.bound a.words.now l.i) c.scan_below.ensures c.in_err-value.was in
    path-unread a.words.now a.pairs.now (path-halt a.bound a.words.now a.path l.i l.invariant.0 (search rules) e) (handed-on c.from_residual.ensures.1)

pub returns : goal.returns
unfolding path_length
returns c =
    let s = c in
    let a = s.args in
    let l = c.loop-i in
    let end = a.path.start + a.path.count in
    let n : end - a.path.start ≡ a.path.count = omega arith in
    let m = names-none (name_length a.pairs.now) a.words.now l.i end (search rules) in
    path-read a.words.now a.pairs.now a.path (path-all a.bound a.words.now a.path l.i l.invariant.0 (search rules)) refl
    (omega (arith, c.root_length-bytes.ensures.0, m, rw n at l.invariant.2))
    (omega (arith, l.invariant.1, l.invariant.0.inside, s.requires.1))
