use Rattle.hierarchy.proofs.Alike.{checked_once}
use Rattle.hierarchy.proofs.hierarchy.accept.tables_are_checked_once.Goals as goal

pub returns : goal.returns
returns g c = checked_once g.K.Kind g.K.Kind.shape
