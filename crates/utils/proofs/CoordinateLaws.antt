-- A coordinate that was read is exact as a float.
use Rattle.std.proofs.Common.{◌^◌, ◌≤◌, leb, [], nat_abs, leb-true}
use Rattle.parsing.specs.Good.{Post, bind-post, return_post, fail-post, pick_post}
use Rattle.utils.specs.Vbe.{noted_signed, noted_coordinate}

pub coordinate-small : Post noted_coordinate (λ v e. nat_abs v.value ≤ 2 ^ 53)
unfolding noted_coordinate
coordinate-small = bind-post noted_signed (λ v. pick_post (leb (nat_abs v.value) (2 ^ 53)) (λ h. return_post v (λ z. nat_abs z.value ≤ 2 ^ 53) (leb-true (nat_abs v.value) (2 ^ 53) h)) (λ h. fail-post 12 [] _))
