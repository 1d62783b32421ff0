use Rattle.std.proofs.Common.{refl}
use Rattle.sets.specs.Examples.{square}
use Rattle.sets.specs.Sets.{Needs}
use Rattle.sets.proofs.Examples.{kept, needs_none, not_closed, none_closed, first_closed, all_closed, off_coarse, off_finest}
use Rattle.sets.proofs.mesh_examples.Goals as goal

pub returns : goal.returns
returns c =
    let needs : Needs square 2 1 = record { cell = 2; taken = refl; made = refl } in (
      kept,
      refl,
      refl,
      refl,
      refl,
      refl,
      refl,
      refl,
      refl,
      needs,
      record { cell = 7; taken = refl; made = refl },
      record { cell = 11; taken = refl; made = refl },
      needs_none,
      not_closed needs,
      none_closed,
      first_closed,
      all_closed,
      refl,
      refl,
      refl,
      refl,
      refl,
      refl,
      off_coarse,
      off_finest,
      refl,
      refl,
    )
