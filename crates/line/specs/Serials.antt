-- The serial numbers of a line's heads, of which no two are equal (document 02, request (xi)).
-- Assumes nothing.
use Rattle.std.specs.Prelude.{ℕ, zero, suc, Bool, true, not, ◌&&◌, List, [], ◌∷◌}
use Rattle.rows.specs.Among.{among}
use Rattle.state.specs.declared.parts.Head.{Head}

-- those of the first n heads, in the heads' order
abbrev pub serials_of : ℕ → List Head → List ℕ
serials_of zero hs = []
serials_of (suc n) [] = []
serials_of (suc n) (h ∷ hs) = h.stored.serial ∷ serials_of n hs

-- none of them stands twice
abbrev pub all_differ : List ℕ → Bool
all_differ [] = true
all_differ (s ∷ ss) = not (among ss s) && all_differ ss
