-- Alpha-numeric display (document 02, request (ix); manual 4.1.2), which is a value of 28h.
-- Assumes nothing.
use Rattle.std.specs.Prelude.{ℕ, Bool, List, eqb}
use Rattle.state.specs.Settings.{value_at, mode_place}

-- 28h is 3
unfoldable pub is_display : ℕ → Bool
is_display mode = eqb mode 3

-- of the stored values
abbrev pub display_of : List ℕ → Bool
display_of vs = is_display (value_at vs mode_place)
