use Rattle.std.proofs.Common.{◌^◌, ◌<◌, w64, to_z, of_z, rules}
use lib.Signed.{mag}
use Rattle.utils.specs.Vbe.{noted_coordinate}
use Rattle.utils.proofs.DegreeLaws.{too-low, too-high, within}
use Rattle.utils.proofs.NumberLaws.{reads, signed-on}
use Rattle.utils.proofs.read_microdegrees.Goals as goal

pub returns-in_err-v : goal.returns-in_err-v
unfolding noted_coordinate
returns-in_err-v c = search reads

pub returns-then-v-ltminus9007199254740992 : goal.returns-then-v-ltminus9007199254740992
unfolding noted_coordinate
returns-then-v-ltminus9007199254740992 c =
    let m : mag c.in_ok-v.v.value < 2 ^ 63 = search rules in
    signed-on _ _ _ _ _ _ c.in_ok-v.ensures m (rw (too-low (to_z w64 (of_z w64 c.in_ok-v.v.value)) c.if-v-ltminus9007199254740992.true))

pub returns-then-v-gt9007199254740992 : goal.returns-then-v-gt9007199254740992
unfolding noted_coordinate
returns-then-v-gt9007199254740992 c =
    let m : mag c.in_ok-v.v.value < 2 ^ 63 = search rules in
    signed-on _ _ _ _ _ _ c.in_ok-v.ensures m (rw (too-high (to_z w64 (of_z w64 c.in_ok-v.v.value)) c.if-v-gt9007199254740992.true))

pub returns : goal.returns
unfolding noted_coordinate
returns c =
    let m : mag c.in_ok-v.v.value < 2 ^ 63 = search rules in
    signed-on _ _ _ _ _ _ c.in_ok-v.ensures m (rw (within (to_z w64 (of_z w64 c.in_ok-v.v.value)) c.if-v-ltminus9007199254740992.false c.if-v-gt9007199254740992.false))
