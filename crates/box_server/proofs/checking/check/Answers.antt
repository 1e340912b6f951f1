use Rattle.box_server.proofs.Causes.{cause_1, cause_2, cause_2_is, cause_3, cause_3_is, cause_4, cause_4_is, cause_5, cause_5_is, cause_6, cause_6_is, cause_7, cause_7_is, cause_8, cause_8_is}
use Rattle.box_server.proofs.checking.check.Goals as goal

pub returns-then-posts-gt-MAX_POSTS : goal.returns-then-posts-gt-MAX_POSTS
returns-then-posts-gt-MAX_POSTS c = cause_1 c.args.posts.now _ c.if-is_empty.ensures (cause_2_is c.args.posts.now c.if-posts-gt-MAX_POSTS.true)

pub returns-then-is_any_bad : goal.returns-then-is_any_bad
returns-then-is_any_bad c = cause_1 c.args.posts.now _ c.if-is_empty.ensures (cause_2 c.args.posts.now _ c.if-posts-gt-MAX_POSTS.false (cause_3_is c.args.posts.now c.if-is_any_bad.ensures))

pub returns-then-is_any_bad-2 : goal.returns-then-is_any_bad-2
returns-then-is_any_bad-2 c = cause_1 c.args.posts.now _ c.if-is_empty.ensures (cause_2 c.args.posts.now _ c.if-posts-gt-MAX_POSTS.false (cause_3 c.args.posts.now _ c.if-is_any_bad.ensures (cause_4_is c.args.posts.now c.if-is_any_bad-2.ensures)))

pub returns-then-is_any_bad-3 : goal.returns-then-is_any_bad-3
returns-then-is_any_bad-3 c = cause_1 c.args.posts.now _ c.if-is_empty.ensures (cause_2 c.args.posts.now _ c.if-posts-gt-MAX_POSTS.false (cause_3 c.args.posts.now _ c.if-is_any_bad.ensures (cause_4 c.args.posts.now _ c.if-is_any_bad-2.ensures (cause_5_is c.args.posts.now c.if-is_any_bad-3.ensures))))

pub returns-then-is_any_bad-4 : goal.returns-then-is_any_bad-4
returns-then-is_any_bad-4 c = cause_1 c.args.posts.now _ c.if-is_empty.ensures (cause_2 c.args.posts.now _ c.if-posts-gt-MAX_POSTS.false (cause_3 c.args.posts.now _ c.if-is_any_bad.ensures (cause_4 c.args.posts.now _ c.if-is_any_bad-2.ensures (cause_5 c.args.posts.now _ c.if-is_any_bad-3.ensures (cause_6_is c.args.posts.now c.if-is_any_bad-4.ensures)))))

pub returns-then-is_any_bad-5 : goal.returns-then-is_any_bad-5
returns-then-is_any_bad-5 c = cause_1 c.args.posts.now _ c.if-is_empty.ensures (cause_2 c.args.posts.now _ c.if-posts-gt-MAX_POSTS.false (cause_3 c.args.posts.now _ c.if-is_any_bad.ensures (cause_4 c.args.posts.now _ c.if-is_any_bad-2.ensures (cause_5 c.args.posts.now _ c.if-is_any_bad-3.ensures (cause_6 c.args.posts.now _ c.if-is_any_bad-4.ensures (cause_7_is c.args.posts.now c.if-is_any_bad-5.ensures))))))

pub returns-then-are_too_large : goal.returns-then-are_too_large
returns-then-are_too_large c = cause_1 c.args.posts.now _ c.if-is_empty.ensures (cause_2 c.args.posts.now _ c.if-posts-gt-MAX_POSTS.false (cause_3 c.args.posts.now _ c.if-is_any_bad.ensures (cause_4 c.args.posts.now _ c.if-is_any_bad-2.ensures (cause_5 c.args.posts.now _ c.if-is_any_bad-3.ensures (cause_6 c.args.posts.now _ c.if-is_any_bad-4.ensures (cause_7 c.args.posts.now _ c.if-is_any_bad-5.ensures (cause_8_is c.args.posts.now c.if-are_too_large.ensures)))))))

pub returns : goal.returns
returns c = cause_1 c.args.posts.now _ c.if-is_empty.ensures (cause_2 c.args.posts.now _ c.if-posts-gt-MAX_POSTS.false (cause_3 c.args.posts.now _ c.if-is_any_bad.ensures (cause_4 c.args.posts.now _ c.if-is_any_bad-2.ensures (cause_5 c.args.posts.now _ c.if-is_any_bad-3.ensures (cause_6 c.args.posts.now _ c.if-is_any_bad-4.ensures (cause_7 c.args.posts.now _ c.if-is_any_bad-5.ensures (cause_8 c.args.posts.now c.if-are_too_large.ensures)))))))
