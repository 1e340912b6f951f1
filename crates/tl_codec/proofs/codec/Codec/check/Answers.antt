use Rattle.tl_codec.proofs.codec.Codec.check.Goals as goal

pub returns : goal.returns
returns c = rw (← c.self.view_is) c.listing.ensures
