use Rattle.std.proofs.Common.{rules, refl, sym, arith, [], append-nil, length, ◌≡◌, ◌≤◌, drop}
use Rattle.std.proofs.lemmas.List.{take_at}
use Rattle.std.proofs.lemmas.Grind.{common_steps}
use Rattle.tl_base.proofs.Uses.{used_none}
use Rattle.tl_decode.proofs.Pieces.{added_more, adding_none, adding_more, adding_ended, adding_done}
use Rattle.tl_decode.proofs.items.exact_of.Goals as goal

pub loop-left-init : goal.loop-left-init
loop-left-init g c = record { bound = c.requires; grows = ([], sym (append-nil c.args.out.now.items), omega arith); width = refl; read = adding_none _ c.args.place _ _ _; used = used_none _ ⊥ (λ f. f) }

pub returns-in-Err-Ended-clause-read : goal.returns-in-Err-Ended-clause-read
returns-in-Err-Ended-clause-read g c =
    adding_ended _ c.args.out.now.items c.args.place c.args.count _ _ _ c.args.at.now c.loop-left.at _ _ c.loop-left.out.items c.take_bytes.new.into c.loop-left.left c.min-size.result c.loop-left.invariant.read
    (grind (arith, c.min-size.ensures)) (rw c.in-Err-Ended.field-0-is at c.in-Err-Ended.ensures.bytes) (grind (arith, common_steps, c.loop-left.invariant.width))

pub loop-left-preserved : goal.loop-left-preserved
loop-left-preserved g c =
    let len : length c.take_bytes.new.into ≡ c.min-size.result = grind (arith, common_steps, c.loop-left.invariant.width) in
    let few : c.min-size.result ≤ c.loop-left.left = grind (arith, c.min-size.ensures) in
    record {
      bound = search rules;
      grows = rw (c.in_ok-extend_from_slice.ensures.items, take_at c.take_bytes.new.into (drop c.min-size.result c.loop-left.piece) c.min-size.result len) (added_more c.args.out.now.items c.loop-left.out.items c.take_bytes.new.into c.args.count c.loop-left.left c.min-size.result c.loop-left.invariant.grows len few);
      width = grind (arith, common_steps, c.loop-left.invariant.width);
      read = rw (c.in_ok-extend_from_slice.ensures.items, take_at c.take_bytes.new.into (drop c.min-size.result c.loop-left.piece) c.min-size.result len) (adding_more c.args.out.now.items c.args.place c.args.count _ _ _ c.args.at.now c.loop-left.at _ c.loop-left.out.items c.take_bytes.new.into c.loop-left.left c.min-size.result c.loop-left.invariant.read
          (grind (arith, c.min-size.ensures)) len c.in-Ok.ensures.bytes (search rules));
      used = search rules;
    }

pub returns-clause-read : goal.returns-clause-read
returns-clause-read g c = adding_done _ tt c.args.out.now.items c.args.place c.args.count _ _ c.args.at.now c.loop-left.at c.loop-left.out.items c.loop-left.left c.loop-left.invariant.read (omega arith) c.loop-left.invariant.bound refl

pub returns-clause-grows : goal.returns-clause-grows
returns-clause-grows g c = let grown = c.loop-left.invariant.grows in (grown.0, grown.1, omega (arith, grown.2))
