-- Chains of links: each symbol links to another, and to itself at the end of its chain.
use Rattle.std.specs.Prelude.{◌≡◌, ℕ, zero, suc, ◌<◌, Bool, false, not, ◌↔◌, Some, None, Option, ◌==◌}
use Rattle.tables.specs.View.{View, symbol_count, symbol_at}

-- the link chain from s ends at c, which links to itself
pub data Ends (t : View) : ℕ → ℕ → Type 0 where
  end : {s : ℕ} → (symbol_at t s).link ≡ s → Ends t s s
  link : {s c : ℕ} → Ends t (symbol_at t s).link c → Ends t s c

-- every link names a symbol
abbrev pub LinksWithin : View → Type 0
LinksWithin t = (s : ℕ) → s < symbol_count t → (symbol_at t s).link < symbol_count t

-- k links on from s
unfoldable pub linked : View → ℕ → ℕ → ℕ
linked t zero s = s
linked t (suc k) s = linked t k (symbol_at t s).link

-- the end of the link chain from s: the end links to itself, so no step past it leads away
unfoldable pub canon : View → ℕ → ℕ
canon t s = linked t (symbol_count t) s

-- the link chain from s has no end
unfoldable pub endless : View → ℕ → Bool
endless t s = not ((symbol_at t (canon t s)).link == canon t s)

-- the alias symbol of the end, if there is one
unfoldable pub alias : View → ℕ → Option ℕ
alias t s = (symbol_at t (canon t s)).alias

-- the alias symbol of the end, or else the end itself
unfoldable pub served : View → ℕ → ℕ
served t s = elim (alias t s) [ Some a ↦ a | None ↦ canon t s ]

-- where every link names a symbol, a test for chains without an end and a function to the end say what the chains say
pub record Chains (end_of : View → ℕ → ℕ) (has_no_end : View → ℕ → Bool) : Type 0 where
  -- a chain has an end, or it is endless
  pub ending : (t : View) → LinksWithin t → (s : ℕ) → s < symbol_count t → (has_no_end t s ≡ false) ↔ ((c : ℕ) × Ends t s c)
  pub last : (t : View) → LinksWithin t → (s c : ℕ) → s < symbol_count t → Ends t s c → end_of t s ≡ c
