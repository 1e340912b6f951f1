use Rattle.std.proofs.Common.{rules, sym, subst}
use Rattle.tl_encode.specs.inner.Frames.{EachIsCounted, frames_of, rested, standing_at}
use Rattle.tl_encode.proofs.GoingOn.{first_has, goes_none, goes_some, rested_counted, stepped_counted, was_first, was_none}
use Rattle.tl_encode.proofs.frames.Stack.next_part.Goals as goal

pub returns-in_err-at-clause-goes_on : goal.returns-in_err-at-clause-goes_on
returns-in_err-at-clause-goes_on c = λ p all. goes_none p (frames_of c.args.self.now) _ _ (was_none (rested (frames_of c.args.self.now)) (search rules)) c.next_at.ensures.frames (search rules) all

pub part_of-requires-clause-left : goal.part_of-requires-clause-left
part_of-requires-clause-left c =
    let old = frames_of c.args.self.now in
    let top = c.innermost.result.now in
    let at = c.in_ok-at.at in
    (first_has old (standing_at top at) (was_first (rested old) (frames_of c.next_at.new.self) top at (search rules) c.next_at.ensures.frames c.innermost.ensures) c.requires.counted).0

pub part_of-requires-clause-counted : goal.part_of-requires-clause-counted
part_of-requires-clause-counted c =
    let old = frames_of c.args.self.now in
    let top = c.innermost.result.now in
    let at = c.in_ok-at.at in
    (first_has old (standing_at top at) (was_first (rested old) (frames_of c.next_at.new.self) top at (search rules) c.next_at.ensures.frames c.innermost.ensures) c.requires.counted).1.1

pub returns-clause-goes_on : goal.returns-clause-goes_on
returns-clause-goes_on c = λ p all.
    let old = frames_of c.args.self.now in
    let top = c.innermost.result.now in
    let at = c.in_ok-at.at in
    let was = was_first (rested old) (frames_of c.next_at.new.self) top at (search rules) c.next_at.ensures.frames c.innermost.ensures in
    goes_some p old _ (standing_at top at) _ was c.next_at.ensures.frames (c.part_of.ensures p) all

pub returns-clause-counted : goal.returns-clause-counted
returns-clause-counted c = subst EachIsCounted (sym c.next_at.ensures.frames) (stepped_counted (rested (frames_of c.args.self.now)) (rested_counted (frames_of c.args.self.now) c.requires.counted))
