use Prim.Native.Nat.{◌+◌}
use mathlib.Core.Bool.{false}
use mathlib.Core.List.{[]}
use mathlib.Core.Path.{refl}
use native.Mathlib.Omega.{arith}
use Rattle.rast.specs.Bytes.{ascii}
use Rattle.buffer.proofs.Passes.{laid-counted, laid-nothing}
use Rattle.encoding.specs.Reading.{got}
use Rattle.text_pass.specs.Passes.{◌then◌, came, last}
use Rattle.text_pass.proofs.Passes.{AlongChain, came-to, chain-laid, chain_next, chain-stop, last-laid, ready-count, went-handed}
use Rattle.text_pass.proofs.Leaves.{count_none, count-refused, count-some}
use Rattle.text_attributes.specs.Texts.{derived_at, some_arguments}
use Rattle.text_attributes.proofs.Attributes.{derived-first}
use Rattle.text_attributes.proofs.count_derived.Goals as goal

pub returns-then-value-eq0 : goal.returns-then-value-eq0
returns-then-value-eq0 c =
    let start = c in
    came (count_none (derived-first start.args.words.now start.args.pairs.now start.args.text.now start.args.at) c.scan_word.ensures c.in_ok-value.was c.if-value-eq0.true (laid-nothing _ _))

pub count_arguments-requires : goal.count_arguments-requires
count_arguments-requires c = (c.requires, omega arith, (omega (arith, c.if-value-eq0.false)))

pub returns-in_err-end : goal.returns-in_err-end
unfolding ascii
returns-in_err-end c =
    let arguments : let start = c in AlongChain false [] start.args.pos (derived_at start.args.words.now start.args.pairs.now start.args.text.now start.args.at) [] (start.args.pos + 1) (some_arguments start.args.words.now start.args.pairs.now start.args.text.now c.in_ok-value.value c.in_ok-value.next then λ r. last (got (ascii ")") r)) = let start = c in
    chain-laid (count-some (derived-first start.args.words.now start.args.pairs.now start.args.text.now start.args.at) c.scan_word.ensures c.in_ok-value.was c.if-value-eq0.false ready-count) (laid-counted refl refl) in
    went-handed c.in_err-end.was c.from_residual-in_err-end.ensures.1 (chain-stop arguments c.count_arguments.ensures c.in_err-end.was)

pub returns : goal.returns
unfolding ascii
returns c =
    let arguments : let start = c in AlongChain false [] start.args.pos (derived_at start.args.words.now start.args.pairs.now start.args.text.now start.args.at) [] (start.args.pos + 1) (some_arguments start.args.words.now start.args.pairs.now start.args.text.now c.in_ok-value.value c.in_ok-value.next then λ r. last (got (ascii ")") r)) = let start = c in
    chain-laid (count-some (derived-first start.args.words.now start.args.pairs.now start.args.text.now start.args.at) c.scan_word.ensures c.in_ok-value.was c.if-value-eq0.false ready-count) (laid-counted refl refl) in
    came (last-laid (chain_next arguments (came-to c.count_arguments.ensures c.in_ok-end.was)) (laid-counted refl c.count_few.ensures))

pub returns-in_err-value : goal.returns-in_err-value
returns-in_err-value c =
    let start = c in
    went-handed refl c.from_residual.ensures.1 (count-refused (derived-first start.args.words.now start.args.pairs.now start.args.text.now start.args.at) c.scan_word.ensures c.in_err-value.was)
