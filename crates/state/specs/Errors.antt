-- A list of the last ten errors (document 01, "What each one does": a full list drops its oldest).
-- Assumes nothing.
use Rattle.std.specs.Prelude.{ℕ, ◌+◌, cond, List, [], ◌∷◌, ◌++◌, ltb, eqb, length, take, drop, get_or, set, replicate}
use Rattle.state.specs.declared.parts.ErrorList.{ErrorList}

-- the codes in a list, the oldest first; one more, where a full list drops its oldest
abbrev pub entries : ErrorList → List ℕ
entries l = take l.count l.codes

abbrev pub entered : List ℕ → ℕ → List ℕ
entered codes code = cond (ltb (length codes) 10) codes (drop 1 codes) ++ (code ∷ [])

unfoldable pub empty_list : ErrorList
empty_list = record { codes = replicate 10 0; count = 0 }

-- the list with one code more: a full one loses its oldest; one whose count is over ten, which no head has, stays as it is
unfoldable pub remembered_of : ErrorList → ℕ → ErrorList
remembered_of l code =
    cond (ltb l.count 10) (record { codes = set l.codes l.count code; count = l.count + 1 })
    (cond (eqb l.count 10) (record { codes = drop 1 l.codes ++ (code ∷ []); count = l.count }) l)

-- the code at a place, the oldest at 0; empty places read 0
unfoldable pub entry_of : ErrorList → ℕ → ℕ
entry_of l i = cond (ltb i l.count) (get_or l.codes i 0) 0
