use Rattle.std.proofs.Common.{rules}
use Rattle.std.proofs.lemmas.List.Sorted.{answers_always}
use Rattle.tl_encode.proofs.Named.{found, never_missing}
use Rattle.tl_encode.proofs.openings.member_of.Goals as goal

pub unreachable-requires : goal.unreachable-requires
unreachable-requires c =
    never_missing c.args.members.now c.args.entry c.requires.ascending c.in-Err.field-0 (c.in-Err.ensures.position (λ m. m.entry) (answers_always _ _ _ (λ f a r g called. search rules))) c.requires.named

pub returns : goal.returns
returns c =
    found c.args.members.now c.args.entry c.in-Ok.k c.index-members-k.result c.in-Ok.ensures.bound c.index-members-k.is (c.in-Ok.ensures.position (λ m. m.entry) (answers_always _ _ _ (λ f a r g called. search rules)))
