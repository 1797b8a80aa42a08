-- What a job leaves in a buffer lent to it (document 01, "Refusals by number"). Assumes nothing: these are definitions.
use Rattle.std.specs.Prelude.{◌≡◌, ◌⊎◌, List, ◌++◌, ℕ, ◌≤◌, ◌<◌, length, get_or, drop}

-- a becomes b: each of the first t elements is as Value says, and those beyond never change
pub record Filled (t : ℕ) (Value : ℕ → ℕ → Type 0) (a b : List ℕ) : Type 0 where
  pub same_length : length b ≡ length a
  pub needed : (c : ℕ) → c < t → Value c (get_or b c 0)
  pub beyond : (c : ℕ) → t ≤ c → get_or b c 0 ≡ get_or a c 0

-- What a job leaves in a table, word or rank buffer, by the number it answers: after 1 to 3 nothing changes; after 4 to 13 the
-- needed elements are blank; on success, and after the later refusals of a run or plan, they are as Value says.
pub record Left (number needed blank : ℕ) (Value : ℕ → ℕ → Type 0) (a b : List ℕ) : Type 0 where
  pub unchanged : 1 ≤ number → number ≤ 3 → b ≡ a
  pub blanked : 4 ≤ number → number ≤ 13 → Filled needed (λ c x. x ≡ blank) a b
  pub filled : (number ≡ 0) ⊎ (14 ≤ number) → Filled needed Value a b

-- w stands at the front of a buffer a that became b, and the elements beyond it never change
pub record Front (w a b : List ℕ) : Type 0 where
  pub is : b ≡ w ++ drop (length w) a

-- What a job leaves in a run, plan or reading buffer: on success what it wrote, a list of which Is holds, at the front; otherwise
-- nothing changes.
pub record Written (number : ℕ) (Is : List ℕ → Type 0) (a b : List ℕ) : Type 0 where
  pub unchanged : (number ≡ 0 → ⊥) → b ≡ a
  pub done : number ≡ 0 → (w : List ℕ) × Is w × Front w a b
