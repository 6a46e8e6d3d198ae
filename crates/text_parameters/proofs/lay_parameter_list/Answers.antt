use mathlib.Core.Path.{refl}
use native.Mathlib.Omega.{arith}
use Rattle.rast.specs.Bytes.{ascii}
use Rattle.buffer.proofs.Passes.{laid-nothing}
use Rattle.encoding.specs.Reading.{got}
use Rattle.text_pass.specs.Passes.{◌then◌, came, last}
use Rattle.text_pass.proofs.Passes.{AlongChain, came-to, chain_fits, chain-laid, chain_next, chain-ready, chain-stop, last_fits, last-laid, went-handed}
use Rattle.text_pass.proofs.Leaves.{count_none, count-refused, count-some}
use Rattle.text_parameters.specs.Texts.{parameters_at, some_parameters}
use Rattle.text_parameters.proofs.Parameters.{parameters-first}
use Rattle.text_parameters.proofs.lay_parameter_list.Goals as goal

pub returns-then-value-eq0 : goal.returns-then-value-eq0
returns-then-value-eq0 c =
    let start = c in
    came (count_none (parameters-first start.args.words.now start.args.pairs.now start.args.text.now start.args.at) c.scan_word.ensures c.in_ok-value.was c.if-value-eq0.true (laid-nothing _ _))

pub lay-p-requires : goal.lay-p-requires
unfolding ascii
lay-p-requires c =
    let parameters : let start = c in AlongChain start.args.write start.args.out.now start.args.pos (parameters_at start.args.words.now start.args.pairs.now start.args.text.now start.args.at) start.args.out.now start.args.pos (got (ascii "<") c.in_ok-value.next then λ q. some_parameters start.args.words.now start.args.pairs.now start.args.text.now c.in_ok-value.value q then λ r. last (got (ascii ">") r)) = let start = c in
    count-some (parameters-first start.args.words.now start.args.pairs.now start.args.text.now start.args.at) c.scan_word.ensures c.in_ok-value.was c.if-value-eq0.false start.requires.1 in
    chain_fits parameters

pub lay_parameters-requires : goal.lay_parameters-requires
unfolding ascii
lay_parameters-requires c =
    let parameters : let start = c in AlongChain start.args.write start.args.out.now start.args.pos (parameters_at start.args.words.now start.args.pairs.now start.args.text.now start.args.at) start.args.out.now start.args.pos (got (ascii "<") c.in_ok-value.next then λ q. some_parameters start.args.words.now start.args.pairs.now start.args.text.now c.in_ok-value.value q then λ r. last (got (ascii ">") r)) = let start = c in
    count-some (parameters-first start.args.words.now start.args.pairs.now start.args.text.now start.args.at) c.scan_word.ensures c.in_ok-value.was c.if-value-eq0.false start.requires.1 in
    let behind : let start = c in AlongChain start.args.write start.args.out.now start.args.pos (parameters_at start.args.words.now start.args.pairs.now start.args.text.now start.args.at) c.lay-p.new.out c.lay-p.result (some_parameters start.args.words.now start.args.pairs.now start.args.text.now c.in_ok-value.value c.in_ok-value.next then λ r. last (got (ascii ">") r)) = chain-laid parameters c.lay-p.ensures in
    (c.requires.0, omega (arith, c.if-value-eq0.false), chain-ready behind)

pub returns-in_err-end : goal.returns-in_err-end
unfolding ascii
returns-in_err-end c =
    let parameters : let start = c in AlongChain start.args.write start.args.out.now start.args.pos (parameters_at start.args.words.now start.args.pairs.now start.args.text.now start.args.at) start.args.out.now start.args.pos (got (ascii "<") c.in_ok-value.next then λ q. some_parameters start.args.words.now start.args.pairs.now start.args.text.now c.in_ok-value.value q then λ r. last (got (ascii ">") r)) = let start = c in
    count-some (parameters-first start.args.words.now start.args.pairs.now start.args.text.now start.args.at) c.scan_word.ensures c.in_ok-value.was c.if-value-eq0.false start.requires.1 in
    let behind : let start = c in AlongChain start.args.write start.args.out.now start.args.pos (parameters_at start.args.words.now start.args.pairs.now start.args.text.now start.args.at) c.lay-p.new.out c.lay-p.result (some_parameters start.args.words.now start.args.pairs.now start.args.text.now c.in_ok-value.value c.in_ok-value.next then λ r. last (got (ascii ">") r)) = chain-laid parameters c.lay-p.ensures in
    went-handed c.in_err-end.was c.from_residual-in_err-end.ensures.1 (chain-stop behind c.lay_parameters.ensures c.in_err-end.was)

pub lay-requires : goal.lay-requires
unfolding ascii
lay-requires c =
    let parameters : let start = c in AlongChain start.args.write start.args.out.now start.args.pos (parameters_at start.args.words.now start.args.pairs.now start.args.text.now start.args.at) start.args.out.now start.args.pos (got (ascii "<") c.in_ok-value.next then λ q. some_parameters start.args.words.now start.args.pairs.now start.args.text.now c.in_ok-value.value q then λ r. last (got (ascii ">") r)) = let start = c in
    count-some (parameters-first start.args.words.now start.args.pairs.now start.args.text.now start.args.at) c.scan_word.ensures c.in_ok-value.was c.if-value-eq0.false start.requires.1 in
    let behind : let start = c in AlongChain start.args.write start.args.out.now start.args.pos (parameters_at start.args.words.now start.args.pairs.now start.args.text.now start.args.at) c.lay-p.new.out c.lay-p.result (some_parameters start.args.words.now start.args.pairs.now start.args.text.now c.in_ok-value.value c.in_ok-value.next then λ r. last (got (ascii ">") r)) = chain-laid parameters c.lay-p.ensures in
    last_fits (chain_next behind (came-to c.lay_parameters.ensures c.in_ok-end.was))

pub returns : goal.returns
unfolding ascii
returns c =
    let parameters : let start = c in AlongChain start.args.write start.args.out.now start.args.pos (parameters_at start.args.words.now start.args.pairs.now start.args.text.now start.args.at) start.args.out.now start.args.pos (got (ascii "<") c.in_ok-value.next then λ q. some_parameters start.args.words.now start.args.pairs.now start.args.text.now c.in_ok-value.value q then λ r. last (got (ascii ">") r)) = let start = c in
    count-some (parameters-first start.args.words.now start.args.pairs.now start.args.text.now start.args.at) c.scan_word.ensures c.in_ok-value.was c.if-value-eq0.false start.requires.1 in
    let behind : let start = c in AlongChain start.args.write start.args.out.now start.args.pos (parameters_at start.args.words.now start.args.pairs.now start.args.text.now start.args.at) c.lay-p.new.out c.lay-p.result (some_parameters start.args.words.now start.args.pairs.now start.args.text.now c.in_ok-value.value c.in_ok-value.next then λ r. last (got (ascii ">") r)) = chain-laid parameters c.lay-p.ensures in
    came (last-laid (chain_next behind (came-to c.lay_parameters.ensures c.in_ok-end.was)) c.lay.ensures)

pub returns-in_err-value : goal.returns-in_err-value
returns-in_err-value c =
    let start = c in
    went-handed refl c.from_residual.ensures.1 (count-refused (parameters-first start.args.words.now start.args.pairs.now start.args.text.now start.args.at) c.scan_word.ensures c.in_err-value.was)
