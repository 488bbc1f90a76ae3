-- A telegram's fields (document 01, "Ten bytes"): command, node, parameter, control word, data, check sum.
-- Assumes nothing.
use Rattle.std.specs.Prelude.{ℕ, ◌<◌, List, [], ◌∷◌, get_or, replicate, Some, None, Option}
use Rattle.wire.specs.declared.telegram.Telegram.{Telegram}
use Rattle.wire.specs.Word.{half_of, whole_of, byte0, byte1, byte2, byte3}
use Rattle.wire.specs.Check.{with_check}

-- byte k of a telegram, counted from 0
abbrev at : List ℕ → ℕ → ℕ
at ten k = get_or ten k 0

unfoldable pub fields_of : List ℕ → Telegram
fields_of ten =
    record {
      command = at ten 0;
      node = at ten 1;
      parameter = at ten 2;
      word = half_of (at ten 3) (at ten 4);
      value = whole_of (at ten 5) (at ten 6) (at ten 7) (at ten 8);
    }

-- the nine bytes before the check sum
abbrev pub nine_of : Telegram → List ℕ
nine_of t =
    t.command ∷ t.node ∷ t.parameter ∷ byte2 t.word ∷ byte3 t.word
    ∷ byte0 t.value ∷ byte1 t.value ∷ byte2 t.value ∷ byte3 t.value ∷ []

unfoldable pub bytes_of : Telegram → List ℕ
bytes_of t = with_check (nine_of t)

-- the ten bytes, where there are ten, and else all 0
abbrev pub ten_in : Option (List ℕ) → List ℕ
ten_in (Some ten) = ten
ten_in None = replicate 10 0

-- each field is one that its bytes can hold
pub record Fits (t : Telegram) : Type 0 where
  pub command : t.command < 256
  pub node : t.node < 256
  pub parameter : t.parameter < 256
  pub word : t.word < 65536
  pub value : t.value < 4294967296
