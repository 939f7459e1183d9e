use Rattle.std.proofs.Common.{refl, arith}
use Rattle.utils.proofs.VbeLaws.{ones, signed-one}
use Rattle.utils.proofs.read_vbe_s_int.Goals as goal

pub returns-then-map-at : goal.returns-then-map-at
returns-then-map-at c = search ones

pub returns-then-b-lt128 : goal.returns-then-b-lt128
returns-then-b-lt128 c =
    signed-one c.args.map.now c.args.at _ _ _ (omega arith) refl c.if-b-lt128.true c.signed_of.type_inv c.signed_of.ensures c.plain_signed.ensures
