use Rattle.std.proofs.Common.{◌≡◌, ◌+◌, ◌-◌, length, take, drop, refl, arith}
use Rattle.rebuild_initial.proofs.Filling.{four-wrote}
use Rattle.rebuild_initial.specs.Initialized.{pointer_words, uninit_words}
use Rattle.buffer.proofs.Laws.{part_length}
use Rattle.rebuild_initial.proofs.write_array.Goals as goal

pub returns : goal.returns
returns c =
    let a = c.args in
    let own = take (a.element - a.start) (drop a.start a.words.now) in
    let n : length own ≡ a.element - a.start = part_length a.words.now a.start (a.element - a.start) (omega arith) in
    four-wrote a.out.now (pointer_words a.name) own uninit_words (take (a.end - a.element) (drop a.element a.words.now)) 7 (7 + (a.element - a.start)) (15 + (a.element - a.start)) c.copy_words.ensures c.copy_words-2.ensures c.copy_words-3.ensures c.copy_words-4.ensures refl (omega (arith, n)) (omega arith)
