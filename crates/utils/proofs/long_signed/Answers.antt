use Rattle.std.proofs.Common.{sym, arith, to_z-of_z, w64}
use Rattle.byte_source.proofs.ReadLaws.{reads}
use Rattle.utils.specs.Vbe.{noted_signed}
use Rattle.utils.proofs.VbeLaws.{groups-bound}
use Rattle.utils.proofs.long_signed.Goals as goal

pub returns-in_err-groups : goal.returns-in_err-groups
unfolding noted_signed
returns-in_err-groups c = search reads

pub signed_of-requires : goal.signed_of-requires
signed_of-requires c = groups-bound 64 (omega arith) (omega arith) _ _ (sym c.in_ok-groups.ensures)

pub plain_signed-requires : goal.plain_signed-requires
plain_signed-requires c = groups-bound 64 (omega arith) (omega arith) _ _ (sym c.in_ok-groups.ensures)

pub returns : goal.returns
unfolding noted_signed
returns c =
    rw (← c.in_ok-groups.ensures, to_z-of_z {w = w64} (record { sfits = c.signed_of.type_inv }), c.signed_of.ensures, c.plain_signed.ensures)
