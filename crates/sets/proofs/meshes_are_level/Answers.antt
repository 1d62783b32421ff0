use Rattle.sets.proofs.Levelling.{meshes_level}
use Rattle.sets.proofs.meshes_are_level.Goals as goal

pub returns : goal.returns
returns g c =
    let k = g.K.Kind in
    let laws = g.met.K.Kind in
    meshes_level k.shape k.weight (record { some = laws.some; likes = laws.likes; likens = laws.likens; tells = laws.tells })
