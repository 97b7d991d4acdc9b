-- Which wires a route goes over: from one node on, the wire to the next node and those of the route from there on, each once.
use Rattle.std.proofs.Common.{◌≡◌, ℕ, ◌+◌, ◌<◌, ◌≤◌, ◌==◌, Bool, true, false, ◌&&◌, ◌||◌, refl, sym, ap, ◌∙◌}
use Rattle.std.proofs.Common.{⊎_elim, arith}
use Rattle.std.proofs.lemmas.Bool.{eqb-true, or_cases, and_parts}
use Rattle.alw_num.specs.Weights.{digit}
use Rattle.mesh_route.specs.declared.ports.Port.{Port}
use Rattle.mesh_route.specs.declared.ports.Port.TheVariants.{Local}
use Rattle.mesh_route.specs.Routes.{route, is_first, has_step}
use Rattle.mesh_route.proofs.Steps.{IsStep, distance, route_end, route_first, along}

module _ (width to : ℕ) (wide : 0 < width) where
  pub steps_on : (node next a b : ℕ) → IsStep width node to next → has_step a b (route width node to)
      ≡ ((a == node && (b == next)) || has_step a b (route width next to))
  steps_on node next a b step = ap (has_step a b) step.on ∙ ap (λ first. (a == node && is_first b first) || has_step a b (route width next to))
      (sym (route_first width next to wide))

  pub steps_end : (a b : ℕ) → has_step a b (route width to to) ≡ false
  steps_end a b = ap (has_step a b) (route_end width to to wide refl) ∙ none (a == to)
    where
      none : (c : Bool) → ((c && false) || false) ≡ false
      none true = refl
      none false = refl

  -- a wire on a route begins at no node that is farther than the first
  steps_near : (a b node : ℕ) (port : Port) → has_step a b (route width node to) ≡ true → distance width a to ≤ distance width node to
  steps_near a b = along width to (λ node port. has_step a b (route width node to) ≡ true → distance width a to ≤ distance width node to) wide
      (λ port e. cc (steps_end a b))
      (λ node next port step near e. ⊎_elim
      (λ here. omega (arith, ap (λ n. distance width n to) (eqb-true a node (and_parts (a == node) (b == next) here).0)))
      (λ there. omega (arith, near there, step.nearer))
      (or_cases (a == node && (b == next)) (has_step a b (route width next to)) (sym (steps_on node next a b step) ∙ e)))

  -- a route goes over a wire as its first step, or later, and not both
  pub load_on : (node next a b : ℕ) → IsStep width node to next
      → digit (has_step a b (route width node to)) ≡ digit (a == node && (b == next)) + digit (has_step a b (route width next to))
  load_on node next a b step = ap digit (steps_on node next a b step) ∙ apart (a == node && (b == next)) (has_step a b (route width next to)) refl refl
    where
      apart : (first later : Bool) → (a == node && (b == next)) ≡ first → has_step a b (route width next to) ≡ later → digit (first || later)
          ≡ digit first + digit later
      apart true true e f = absurd (omega (
        arith,
        step.nearer,
        steps_near a b next Local f,
        ap (λ n. distance width n to)
            (eqb-true a node (and_parts (a == node) (b == next) e).0),
      ))
      apart true false e f = omega arith
      apart false later e f = omega arith
