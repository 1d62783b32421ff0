use Rattle.hierarchylines.proofs.Outcomes.{read_once}
use Rattle.hierarchylines.proofs.hierarchy_is_read_once.Goals as goal

pub returns : goal.returns
returns c = read_once
