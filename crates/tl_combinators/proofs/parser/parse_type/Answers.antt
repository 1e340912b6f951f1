use Rattle.tl_combinators.proofs.Spanned.{fits_of}
use Rattle.tl_combinators.proofs.Exact.{type_accepts, type_refuses}
use Rattle.tl_combinators.proofs.parser.parse_type.Goals as goal

pub whole_type_at-requires : goal.whole_type_at-requires
whole_type_at-requires c = fits_of _ _ c.requires

pub returns-clause-reads : goal.returns-clause-reads
returns-clause-reads c = type_accepts _ _ _ c.whole_type_at.ensures

pub returns-clause-refuses : goal.returns-clause-refuses
returns-clause-refuses c = type_refuses _ _ _ c.whole_type_at.ensures
