use Rattle.boards.proofs.Weighing.{base_bound}
use Rattle.boards.proofs.index.IndexEvidence.base.Goals as goal

pub returns-clause-bound : goal.returns-clause-bound
returns-clause-bound c = base_bound c.args.self c.requires
