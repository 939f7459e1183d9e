-- Windows as the definitions have them.
use Rattle.window.specs.Window.{Rectangle, Touched}
use Rattle.window.specs.declared.Window.{Window}
use Rattle.window.specs.declared.WindowTile.{WindowTile}

abbrev pub rectangle_of : Window → Rectangle
rectangle_of w = record { left = w.left; top = w.top; right = w.right; bottom = w.bottom }

abbrev pub touched_of : WindowTile → Touched
touched_of t = record { x = t.x; y = t.y; number = t.number; mask = t.mask }
