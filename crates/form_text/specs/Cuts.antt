-- What is cut from a line of an order form before it is looked at, and the fields that the rest is cut into.
-- Assumes nothing.
use Rattle.std.specs.Prelude.{ℕ, Bool, true, ◌&&◌, ◌||◌, cond, List, [], ◌∷◌, eqb, get_or, drop}
use Prim.Native.Char.{code}

-- the line starts with a byte order mark
abbrev pub is_marked : List ℕ → Bool
is_marked line = eqb (get_or line 0 0) 239 && eqb (get_or line 1 0) 187 && eqb (get_or line 2 0) 191

-- the line without its byte order mark, which only the form's very first line, its top, may have
unfoldable pub unmarked_of : List ℕ → Bool → List ℕ
unmarked_of line top = cond (top && is_marked line) (drop 3 line) line

-- a space, and nothing but spaces
abbrev pub is_space : ℕ → Bool
is_space c = eqb c (code " ")

abbrev pub spaces : List ℕ → Bool
spaces [] = true
spaces (c ∷ cs) = is_space c && spaces cs

-- without the spaces at the start: from the first character on that is no space
unfoldable pub trimmed_start_of : List ℕ → List ℕ
trimmed_start_of [] = []
trimmed_start_of (c ∷ cs) = cond (is_space c) (trimmed_start_of cs) (c ∷ cs)

-- without the spaces at the end: up to the place from which on there is nothing but spaces
unfoldable pub trimmed_end_of : List ℕ → List ℕ
trimmed_end_of [] = []
trimmed_end_of (c ∷ cs) = cond (spaces (c ∷ cs)) [] (c ∷ trimmed_end_of cs)

-- without the spaces at both ends
unfoldable pub trimmed_of : List ℕ → List ℕ
trimmed_of cs = trimmed_end_of (trimmed_start_of cs)

-- a comma, a semicolon or a tab
abbrev pub is_separator : ℕ → Bool
is_separator c = eqb c (code ",") || eqb c (code ";") || eqb c (code "\t")

-- the characters up to the next separator
unfoldable pub front_of : List ℕ → List ℕ
front_of [] = []
front_of (c ∷ cs) = cond (is_separator c) [] (c ∷ front_of cs)

-- The fields: one starts where the line starts and one past each separator, and each goes up to the next separator.
abbrev pub others : List ℕ → List (List ℕ)
others [] = []
others (c ∷ cs) = cond (is_separator c) (front_of cs ∷ others cs) (others cs)

abbrev pub fields_of : List ℕ → List (List ℕ)
fields_of cs = front_of cs ∷ others cs
