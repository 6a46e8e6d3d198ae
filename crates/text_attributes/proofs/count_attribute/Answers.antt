use Prim.Native.Nat.{◌+◌}
use mathlib.Core.Bool.{false}
use mathlib.Core.List.{[], ◌++◌}
use mathlib.Core.Path.{refl}
use native.Mathlib.Omega.{arith}
use Rattle.rast.specs.Bytes.{ascii}
use Rattle.rast.specs.Indent.{indent}
use Rattle.buffer.proofs.Passes.{laid-counted}
use Rattle.encoding.specs.Reading.{got}
use Rattle.text_pass.specs.Passes.{◌then◌, came, last}
use Rattle.text_pass.specs.Texts.{name_at}
use Rattle.text_pass.proofs.Passes.{AlongChain, came-to, chain-laid, chain_next, chain-start, chain-stop, last-came, ready-count, went-handed}
use Rattle.text_attributes.specs.Texts.{attribute_at, derived_at}
use Rattle.text_attributes.proofs.Attributes.{attribute-runs, counts-line}
use Rattle.text_attributes.proofs.count_attribute.Goals as goal

pub count_name-requires : goal.count_name-requires
count_name-requires c = (c.requires, omega arith)

pub returns-in_err-q : goal.returns-in_err-q
unfolding ascii
returns-in_err-q c =
    let name : AlongChain false [] c.args.pos (attribute_at c.args.words.now c.args.pairs.now c.args.text.now c.args.level c.args.at) [] (c.args.pos + 2) (name_at c.args.words.now c.args.pairs.now c.args.text.now c.args.at then λ p. derived_at c.args.words.now c.args.pairs.now c.args.text.now p then λ q. last (got (ascii "]" ++ (ascii "\n" ++ indent c.args.level)) q)) = chain-laid (chain-start (attribute-runs c.args.words.now c.args.pairs.now c.args.text.now c.args.level c.args.at) ready-count) (laid-counted refl refl) in
    went-handed c.in_err-q.was c.from_residual.ensures.1 (chain-stop name c.count_name.ensures c.in_err-q.was)

pub count_derived-requires : goal.count_derived-requires
count_derived-requires c = c.requires

pub returns-in_err-next : goal.returns-in_err-next
unfolding ascii
returns-in_err-next c =
    let name : AlongChain false [] c.args.pos (attribute_at c.args.words.now c.args.pairs.now c.args.text.now c.args.level c.args.at) [] (c.args.pos + 2) (name_at c.args.words.now c.args.pairs.now c.args.text.now c.args.at then λ p. derived_at c.args.words.now c.args.pairs.now c.args.text.now p then λ q. last (got (ascii "]" ++ (ascii "\n" ++ indent c.args.level)) q)) = chain-laid (chain-start (attribute-runs c.args.words.now c.args.pairs.now c.args.text.now c.args.level c.args.at) ready-count) (laid-counted refl refl) in
    let derived : let start = c in AlongChain false [] start.args.pos (attribute_at start.args.words.now start.args.pairs.now start.args.text.now start.args.level start.args.at) [] c.in_ok-q.p (derived_at start.args.words.now start.args.pairs.now start.args.text.now c.in_ok-q.q then λ q. last (got (ascii "]" ++ (ascii "\n" ++ indent start.args.level)) q)) = chain_next name (came-to c.count_name.ensures c.in_ok-q.was) in
    went-handed c.in_err-next.was c.from_residual-in_err-next.ensures.1 (chain-stop derived c.count_derived.ensures c.in_err-next.was)

pub returns : goal.returns
unfolding ascii
returns c =
    let name : AlongChain false [] c.args.pos (attribute_at c.args.words.now c.args.pairs.now c.args.text.now c.args.level c.args.at) [] (c.args.pos + 2) (name_at c.args.words.now c.args.pairs.now c.args.text.now c.args.at then λ p. derived_at c.args.words.now c.args.pairs.now c.args.text.now p then λ q. last (got (ascii "]" ++ (ascii "\n" ++ indent c.args.level)) q)) = chain-laid (chain-start (attribute-runs c.args.words.now c.args.pairs.now c.args.text.now c.args.level c.args.at) ready-count) (laid-counted refl refl) in
    let derived : let start = c in AlongChain false [] start.args.pos (attribute_at start.args.words.now start.args.pairs.now start.args.text.now start.args.level start.args.at) [] c.in_ok-q.p (derived_at start.args.words.now start.args.pairs.now start.args.text.now c.in_ok-q.q then λ q. last (got (ascii "]" ++ (ascii "\n" ++ indent start.args.level)) q)) = chain_next name (came-to c.count_name.ensures c.in_ok-q.was) in
    came (last-came (chain_next derived (came-to c.count_derived.ensures c.in_ok-next.was)) (counts-line c.args.level c.count_few.ensures))
