-- What a line's calls are to its heads: each head alone (document 01, "The line, and calls refused").
-- Assumes nothing.
use Rattle.std.specs.Prelude.{ℕ, zero, suc, ◌+◌, ◌<◌, ◌≡◌, true, ◌≢◌, List, length, Ok, Err, Result}
use Rattle.state.specs.declared.parts.Head.{Head}
use Rattle.head.specs.declared.calls.Called as head-Called
use Rattle.head.specs.declared.calls.Fed as head-Fed
use Rattle.line.specs.declared.calls.Line.{Line}
use Rattle.line.specs.declared.calls.Called.{Called}
use Rattle.line.specs.Calls.{fits_of, head_at}
use Rattle.demands.specs.Calls.{Ask}
use Rattle.demands.specs.Twenty.{takes_line}
use Rattle.demands.specs.Run.{OnHead}
use Rattle.head.specs.declared.refusal.Refusal.{Refusal}

-- a line that no call refuses with 20; that it has 32 places is its type's; and one that a call which names a head does not refuse with 20
pub record Fits (l : Line) : Type 0 where
  pub fits : fits_of l ≡ true
  pub places : length l.heads ≡ 32

pub record FitsFor (a : Ask) (l : Line) : Type 0 where
  pub takes : takes_line a l ≡ true
  pub places : length l.heads ≡ 32

-- ---- a byte that head k hears alone, with the space that is lent to the line
abbrev pub heard_alone : OnHead → Line → ℕ → ℕ → List ℕ → ℕ → head-Fed.Fed
heard_alone m l b t space k = m.byte (head_at l k) b t (length space)

abbrev pub number_in : Result ℕ Refusal → ℕ
number_in (Ok n) = n
number_in (Err why) = 0

-- f 0 + f 1 + .. of the first n
abbrev pub sum : ℕ → (ℕ → ℕ) → ℕ
sum zero f = 0
sum (suc n) f = f 0 + sum n (λ i. f (suc i))

-- the replies of all heads, each alone
abbrev pub all_replies : OnHead → Line → ℕ → ℕ → List ℕ → ℕ
all_replies m l b t space = sum l.count (λ k. number_in (heard_alone m l b t space k).heard)

-- head k replies, and no other
pub record Only (m : OnHead) (l : Line) (b t : ℕ) (space : List ℕ) (k : ℕ) : Type 0 where
  pub there : k < l.count
  pub speaks : (heard_alone m l b t space k).heard ≡ Ok 1
  pub others : (j : ℕ) → j < l.count → j ≢ k → (heard_alone m l b t space j).heard ≡ Ok 0

-- ---- a call on a line that names a head: k is the line that it gives, h what the same call makes of that head alone. The head becomes what it
-- becomes alone, and every other head and the count are as they were
pub record ToOne (l : Line) (i : ℕ) (k : Line) (h : Head) : Type 0 where
  pub there : head_at k i ≡ h
  pub others : (j : ℕ) → j ≢ i → head_at k j ≡ head_at l j
  pub count : k.count ≡ l.count

-- no head of the line has this serial number
abbrev pub Unused : Line → ℕ → Type 0
Unused l serial = (k : ℕ) → k < l.count → (head_at l k).stored.serial ≢ serial

-- a line grown by a head: d is what making that head alone gives. Where it is made, it stands in the next place and counts; no other head changes
pub record Grown (l : Line) (c : Called) (d : head-Called.Called) : Type 0 where
  pub answer : c.answer ≡ d.answer
  pub there : d.answer ≡ (Ok tt) → head_at c.line l.count ≡ d.head
  pub count : d.answer ≡ (Ok tt) → c.line.count ≡ l.count + 1
  pub others : (j : ℕ) → j ≢ l.count → head_at c.line j ≡ head_at l j
