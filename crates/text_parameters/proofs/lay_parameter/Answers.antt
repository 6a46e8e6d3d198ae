use Rattle.text_pass.specs.Passes.{◌then◌, last}
use Rattle.text_pass.specs.Texts.{name_at}
use Rattle.text_pass.proofs.Passes.{AlongChain, came-to, chain_next, chain-ready, chain-start, chain-stop, last-ready, last-went, went-handed}
use Rattle.text_parameters.specs.Texts.{constraints_at, parameter_at}
use Rattle.text_parameters.proofs.Parameters.{parameter-runs}
use Rattle.text_parameters.proofs.lay_parameter.Goals as goal
use Rattle.text_parameters.proofs.lay_parameter.Goals.{Start}

parameter : (c : Start) → AlongChain c.args.write c.args.out.now c.args.pos (parameter_at c.args.words.now c.args.pairs.now c.args.text.now c.args.at) c.args.out.now c.args.pos (name_at c.args.words.now c.args.pairs.now c.args.text.now c.args.at then λ p. last (constraints_at c.args.words.now c.args.pairs.now c.args.text.now p))
parameter c = chain-start (parameter-runs c.args.words.now c.args.pairs.now c.args.text.now c.args.at) c.requires.1

pub lay_name-requires : goal.lay_name-requires
lay_name-requires c =
    let start = c in
    (start.requires.0, chain-ready (parameter (goal.at.lay_name-requires c).Start))

pub returns-in_err-next : goal.returns-in_err-next
returns-in_err-next c =
    went-handed c.in_err-next.was c.from_residual.ensures.1 (chain-stop (parameter (goal.at.returns-in_err-next c).Start) c.lay_name.ensures c.in_err-next.was)

pub lay_constraint_list-requires : goal.lay_constraint_list-requires
lay_constraint_list-requires c =
    let start = c in
    (start.requires.0, last-ready (chain_next (parameter (goal.at.lay_constraint_list-requires c).Start) (came-to c.lay_name.ensures c.in_ok-next.was)))

pub returns : goal.returns
returns c =
    last-went (chain_next (parameter (goal.at.returns c).Start) (came-to c.lay_name.ensures c.in_ok-next.was)) c.lay_constraint_list.ensures
