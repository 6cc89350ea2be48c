-- The elements of a list that are checked one after the other.
use Rattle.std.specs.Prelude.{◌≡◌, ℕ, ◌+◌, ◌<◌, List, [], ◌∷◌, ◌++◌, length, drop, Option, Some, None, Ok, Err}
use Rattle.std.specs.List.{slice_index_or}
use Rattle.serde_json.specs.Data.{Data}
use Rattle.serde_json.specs.View.{items_view, view}
use Rattle.serde_json.specs.declared.value.Value.{Value}
use Rattle.json_program.specs.declared.fault.FaultName.{FaultName}
use Rattle.json_program.specs.Faults.{Checked, ◌⊛◌, with_fault}
use Rattle.json_program.specs.Json.{list_of}

-- the values of the elements so far, or the fault that counts among theirs
abbrev pub so_far : {A : Type 0} → Option FaultName → List A → Checked (List A)
so_far None xs = Ok xs
so_far (Some n) xs = Err n

-- the values of two lists, one after the other, or the fault that counts
abbrev pub joined : {A : Type 0} → Checked (List A) → Checked (List A) → Checked (List A)
joined a b = Ok (λ xs ys. xs ++ ys) ⊛ a ⊛ b

-- the value of an element before those of the elements after it, or the fault that counts
abbrev pub first : {A : Type 0} → Checked A → Checked (List A) → Checked (List A)
first a b = Ok (λ x xs. x ∷ xs) ⊛ a ⊛ b

-- A list whose elements are checked one after the other.
pub record ListCheck (A : Type 0) : Type 0 where
  pub value_in : Data → Checked A
  pub elements : List Value

-- What a loop keeps of the elements so far: how many they are, the fault that counts, if there is one, and the values.
pub record SoFar (A : Type 0) : Type 0 where
  pub count : ℕ
  pub fault : Option FaultName
  pub values : List A

-- one more element: its value comes last, its fault is compared with the one so far
abbrev pub with_element : {A : Type 0} → SoFar A → Checked A → SoFar A
with_element s (Ok x) = record { count = s.count + 1; fault = s.fault; values = s.values ++ x ∷ [] }
with_element s (Err name) = record { count = s.count + 1; fault = with_fault s.fault name; values = s.values }

-- the check of a whole list, of which the elements so far gave this
abbrev pub completed : {A : Type 0} → ListCheck A → SoFar A → Checked (List A)
completed list s = joined (so_far s.fault s.values) (list_of list.value_in (items_view (drop s.count list.elements)))

-- the element at an index
abbrev pub IsElement : List Value → ℕ → Value → Type 0
IsElement elements index element = (index < length elements) × (element ≡ slice_index_or elements index element)

-- the element after those so far
abbrev pub IsNext : {A : Type 0} → ListCheck A → SoFar A → Value → Type 0
IsNext list s element = IsElement list.elements s.count element

-- what a loop keeps once the next element is checked
abbrev pub with_next : {A : Type 0} → ListCheck A → SoFar A → Value → SoFar A
with_next list s element = with_element s (list.value_in (view element))
