use mathlib.Core.Path.{◌≡◌}
use lib.ListN.{drop}
use Rattle.rast.specs.Bytes.{each}
use Rattle.rast.specs.Sound.{is_word_byte}
use Rattle.sound_names.proofs.all_word_bytes.Given as goal

abbrev pub invariant-loop-b : goal.invariant-loop-b
invariant-loop-b l = each is_word_byte (drop l.b-index l.bytes) ≡ each is_word_byte l.bytes
