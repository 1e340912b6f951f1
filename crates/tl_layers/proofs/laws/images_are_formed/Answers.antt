use Rattle.tl_layers.proofs.EmptyConstructors.{images_are_formed}
use Rattle.tl_layers.proofs.laws.images_are_formed.Goals as goal

pub returns : goal.returns
returns c = images_are_formed
