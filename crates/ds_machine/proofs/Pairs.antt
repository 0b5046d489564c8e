-- A nested pair without its brackets: what is shown of the first of several, and of those after it.

infixr 5 ◌⨾◌
pub ◌⨾◌ : {A B : Type 0} → A → B → A × B
first ⨾ others = (first, others)
