use Rattle.tlbox_c.proofs.exports.tlbox_layers.Goals as goal

pub returns : goal.returns
returns c = (c.layers.result, c.layers.ensures, c.hand_made.ensures)
