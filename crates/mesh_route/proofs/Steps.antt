-- A route is its first node and the route from the next node on, which is nearer to its end.
use Rattle.std.proofs.Common.{◌≡◌, ◌≢◌, ℕ, zero, suc, ◌+◌, ◌-◌, ◌*◌, ◌<◌, ◌≤◌, Some, None, List, [], ◌∷◌, sym, ap, subst, ◌∙◌, ◌⊎◌}
use Rattle.std.proofs.Common.{inl, inr, ⊎_elim, arith}
use Rattle.std.proofs.lemmas.Bool.{cases_order, cases_eq}
use Rattle.std.proofs.Math.Nat.{add-mul, mul_comm}
use Rattle.std.proofs.lemmas.Nat.{div-add-mod', div-mul-add, mod-mul-add, mul-add-lt, div_below}
use Rattle.alw_msg.specs.Lists.{front, behind}
use Rattle.mesh_route.specs.Routes.{column_of, row_of, node_at, path, route, next_on, port_from}
use Rattle.mesh_route.specs.declared.ports.Port.{Port}
use Rattle.mesh_route.proofs.Paths.{stretch_up, stretch_down, path_along, path_down, path_end}

-- how far two numbers are from each other, and two nodes, in columns and rows
abbrev pub gap : ℕ → ℕ → ℕ
gap a b = a - b + (b - a)

unfoldable pub distance : ℕ → ℕ → ℕ → ℕ
distance width from to = gap (column_of width from) (column_of width to) + gap (row_of width from) (row_of width to)

-- `next` is the node behind the first on the route
pub record IsStep (width from to next : ℕ) : Type 0 where
  pub on : route width from to ≡ from ∷ route width next to
  pub nearer : distance width next to + 1 ≡ distance width from to
  pub within : (height : ℕ) → from < width * height → to < width * height → next < width * height

module _ (width from to next : ℕ) where
  -- a next node of this column and row
  of_next : (column row : ℕ) → column < width → next ≡ row * width + column
      → ((height : ℕ) → row_of width from < height → row_of width to < height → row < height)
      → path width (column_of width from) (row_of width from) (column_of width to) (row_of width to)
      ≡ node_at width (column_of width from) (row_of width from) ∷ path width column row (column_of width to) (row_of width to)
      → gap column (column_of width to) + gap row (row_of width to) + 1 ≡ gap (column_of width from) (column_of width to) + gap (row_of width from)
      (row_of width to)
      → IsStep width from to next
  unfolding route distance
  of_next column row l e low on nearer =
      let wide : 0 < width = omega arith in
      let c : column_of width next ≡ column = ap (column_of width) e ∙ mod-mul-add row width column l in
      let r : row_of width next ≡ row = ap (row_of width) e ∙ div-mul-add row width column l in
      record {
        on = on ∙ (λ i. div-add-mod' from width i ∷ path width (sym c i) (sym r i) (column_of width to) (row_of width to));
        nearer = (λ i. gap (c i) (column_of width to) + gap (r i) (row_of width to) + 1) ∙ nearer;
        within = λ height f t. rw e (mul-add-lt row width column height (low height
            (div_below from width height wide (rw (mul_comm height width) f)) (div_below to width height wide (rw (mul_comm height width) t))) l);
      }

module _ (width from to : ℕ) (wide : 0 < width) where
  right_column : (node : ℕ) → column_of width node < width
  right_column node = omega arith

  pub step_east : column_of width from < column_of width to → IsStep width from to (from + 1)
  step_east l = of_next width from to (from + 1) (column_of width from + 1) (row_of width from) (omega (arith, right_column to))
      (omega (arith, div-add-mod' from width)) (λ height f t. f)
      (path_along width (column_of width from) (row_of width from) (column_of width to) (row_of width to) (column_of width from + 1) (stretch_up _ _ l))
      (omega arith)

  pub step_west : column_of width to < column_of width from → IsStep width from to (from - 1)
  step_west l = of_next width from to (from - 1) (column_of width from - 1) (row_of width from) (omega (arith, right_column from))
      (omega (arith, div-add-mod' from width)) (λ height f t. f)
      (path_along width (column_of width from) (row_of width from) (column_of width to) (row_of width to) (column_of width from - 1) (stretch_down _ _ l))
      (omega arith)

  next_row : (row : ℕ) → (row + 1) * width ≡ row * width + width
  next_row row = omega (arith, add-mul row 1 width)

  pub step_south : column_of width from ≡ column_of width to → row_of width from < row_of width to → IsStep width from to (from + width)
  step_south same l = of_next width from to (from + width) (column_of width from) (row_of width from + 1) (right_column from)
      (omega (arith, div-add-mod' from width, next_row (row_of width from))) (λ height f t. omega arith)
      (path_down width (column_of width from) (row_of width from) (column_of width to) (row_of width to) (row_of width from + 1) same (stretch_up _ _ l))
      (omega arith)

  pub step_north : column_of width from ≡ column_of width to → row_of width to < row_of width from → IsStep width from to (from - width)
  step_north same l =
      let row : ℕ = row_of width from in
      let above : row - 1 + 1 ≡ row = omega arith in
      let place : row * width ≡ (row - 1) * width + width = ap (λ k. k * width) (sym above) ∙ next_row (row - 1) in
      of_next width from to (from - width) (column_of width from) (row - 1) (right_column from) (omega (arith, div-add-mod' from width))
      (λ height f t. omega arith)
      (path_down width (column_of width from) row (column_of width to) (row_of width to) (row - 1) same (stretch_down _ _ l)) (omega arith)

  pub route_end : from ≡ to → route width from to ≡ from ∷ []
  unfolding route
  route_end same = path_end width (column_of width from) (row_of width from) (column_of width to) (row_of width to) (ap (column_of width) same)
      (ap (row_of width) same)
      ∙ ap (λ node. node ∷ []) (div-add-mod' from width)

  -- nodes of one column and row are one
  pub same_node : column_of width from ≡ column_of width to → row_of width from ≡ row_of width to → from ≡ to
  same_node column row = sym (div-add-mod' from width) ∙ ((λ i. row i * width + column i) ∙ div-add-mod' to width)

  -- a node that isn't the last has a next one
  pub steps : from ≢ to → (next : ℕ) × IsStep width from to next
  steps apart = go (cases_order (column_of width from) (column_of width to)) (cases_order (row_of width from) (row_of width to))
    where
      go : (column_of width from ≡ column_of width to) ⊎ ((column_of width from < column_of width to) ⊎ (column_of width to < column_of width from))
          → (row_of width from ≡ row_of width to) ⊎ ((row_of width from < row_of width to) ⊎ (row_of width to < row_of width from))
          → (next : ℕ) × IsStep width from to next
      go (inr (inl l)) row = (from + 1, step_east l)
      go (inr (inr l)) row = (from - 1, step_west l)
      go (inl same) (inr (inl l)) = (from + width, step_south same l)
      go (inl same) (inr (inr l)) = (from - width, step_north same l)
      go (inl same) (inl also) = absurd (apart (same_node same also))

pub route_first : (width from to : ℕ) → 0 < width → from ∷ behind (route width from to) ≡ route width from to
route_first width from to wide = go (cases_eq from to)
  where
    by_rest : (rest : List ℕ) → route width from to ≡ from ∷ rest → from ∷ behind (route width from to) ≡ route width from to
    by_rest rest e = ap (λ xs. from ∷ behind xs) e ∙ sym e

    go : (from ≡ to) ⊎ (from ≢ to) → from ∷ behind (route width from to) ≡ route width from to
    go (inl same) = by_rest [] (route_end width from to wide same)
    go (inr apart) = let step = steps width from to wide apart in by_rest (route width step.0 to) step.1.on

pub next_is : (width from to next : ℕ) → 0 < width → IsStep width from to next → next_on width from to ≡ Some next
next_is width from to next wide step = ap (λ xs. front (behind xs)) step.on ∙ ap front (sym (route_first width next to wide))

pub next_none : (width from to : ℕ) → 0 < width → from ≡ to → next_on width from to ≡ None
next_none width from to wide same = ap (λ xs. front (behind xs)) (route_end width from to wide same)

pub distance-same : (width node : ℕ) → distance width node node ≡ 0
unfolding distance
distance-same width node = omega arith

-- ---- what holds at the last node, and at a node where it holds at the next one, holds at every node

pub along : (width to : ℕ) (P : ℕ → Port → Type 0) → 0 < width → ((port : Port) → P to port)
    → ((node next : ℕ) (port : Port) → IsStep width node to next → P next (port_from width node next) → P node port) → (node : ℕ) (port : Port) → P node port
along width to P wide last before node port = go (distance width node to) node port (omega arith)
  where
    at_end : (node : ℕ) (port : Port) → node ≡ to → P node port
    at_end node port same = subst (λ n. P n port) (sym same) (last port)

    go : (far node : ℕ) (port : Port) → distance width node to ≤ far → P node port
    go zero node port near = ⊎_elim (λ same. at_end node port same) (λ apart. let step = steps width node to wide apart in absurd
        (omega (arith, step.1.nearer))) (cases_eq node to)
    go (suc far) node port near = ⊎_elim (λ same. at_end node port same)
        (λ apart. let step = steps width node to wide apart in before node step.0 port step.1
        (go far step.0 (port_from width node step.0) (omega (arith, step.1.nearer))))
        (cases_eq node to)
