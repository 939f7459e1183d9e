use Rattle.std.proofs.Common.{refl, arith, rules}
use Rattle.text.proofs.Utf8Laws.{sequence-in, sequence-out, sequence-ascii}
use Rattle.text.proofs.by_table.Goals as goal

pub returns-in-0-to-127 : goal.returns-in-0-to-127
returns-in-0-to-127 c = sequence-ascii _ _ _ (search rules) (omega arith)

pub returns-in-194-to-223 : goal.returns-in-194-to-223
returns-in-194-to-223 c = sequence-in 1 _ _ _ _ _ _ (search rules) (omega arith) refl (omega arith) (omega arith) c.follow_at-in-194-to-223.ensures

pub returns-in-224 : goal.returns-in-224
returns-in-224 c = sequence-in 2 _ _ _ _ _ _ (search rules) (omega arith) refl (omega arith) (omega arith) c.follow_at.ensures

pub returns-in-225-to-236 : goal.returns-in-225-to-236
returns-in-225-to-236 c = sequence-in 3 _ _ _ _ _ _ (search rules) (omega arith) refl (omega arith) (omega arith) c.follow_at-in-225-to-236.ensures

pub returns-in-237 : goal.returns-in-237
returns-in-237 c = sequence-in 4 _ _ _ _ _ _ (search rules) (omega arith) refl (omega arith) (omega arith) c.follow_at-in-237.ensures

pub returns-in-238-to-239 : goal.returns-in-238-to-239
returns-in-238-to-239 c = sequence-in 5 _ _ _ _ _ _ (search rules) (omega arith) refl (omega arith) (omega arith) c.follow_at-in-238-to-239.ensures

pub returns-in-240 : goal.returns-in-240
returns-in-240 c = sequence-in 6 _ _ _ _ _ _ (search rules) (omega arith) refl (omega arith) (omega arith) c.follow_at-in-240.ensures

pub returns-in-241-to-243 : goal.returns-in-241-to-243
returns-in-241-to-243 c = sequence-in 7 _ _ _ _ _ _ (search rules) (omega arith) refl (omega arith) (omega arith) c.follow_at-in-241-to-243.ensures

pub returns-in-244 : goal.returns-in-244
returns-in-244 c = sequence-in 8 _ _ _ _ _ _ (search rules) (omega arith) refl (omega arith) (omega arith) c.follow_at-in-244.ensures

pub returns-in_default : goal.returns-in_default
returns-in_default c = sequence-out 1 _ _ (omega arith) (omega arith)

pub returns-in_default-2 : goal.returns-in_default-2
returns-in_default-2 c = sequence-out 9 _ _ (omega arith) tt
