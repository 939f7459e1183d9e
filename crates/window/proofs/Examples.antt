-- A window over a corner of a grid, computed: sub tiles from -5 to 0 across and from 3 to 4 down touch columns -2 to 0 and rows 0 and 1.
use mathlib.Core.Path.{◌≡◌, refl}
use mathlib.Core.List.{[], ◌∷◌}
use lib.IntN.{pos, negsuc}
use Rattle.format.specs.Index.{Grid, grid_tiles, answer}
use Rattle.window.specs.Window.{Rectangle, touched, window_count}

grid : Grid
grid = record { x_min = negsuc 0; y_min = pos 0; x_max = pos 2; y_max = pos 3 }

view : Rectangle
view = record { left = negsuc 4; top = pos 3; right = pos 0; bottom = pos 4 }

-- column -2 lies outside the grid; row 0 has its last row of cells touched, row 1 its first
tiles : touched grid view ≡ record { x = negsuc 0; y = pos 0; number = 0; mask = 15 } ∷ record { x = pos 0; y = pos 0; number = 1; mask = 8 } ∷ record { x = negsuc 0; y = pos 1; number = 4; mask = 61440 } ∷ record { x = pos 0; y = pos 1; number = 5; mask = 32768 } ∷ []
unfolding grid view
tiles = refl

count : window_count grid view ≡ answer 4
unfolding grid view window_count grid_tiles
count = refl
