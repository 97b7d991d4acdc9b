-- A message to memory that is fit for its link is at its line's home.
use Rattle.std.proofs.Common.{◌≡◌, ℕ, ◌-◌, ◌/◌, ◌^◌, true, ◌&&◌, ◌==◌, nat_lt, sym, ap, ◌∙◌}
use Rattle.std.proofs.lemmas.Bool.{eqb-true}
use Rattle.alw_msg.specs.Kinds.{to_memory}
use Rattle.alw_msg.specs.Contents.{content}
use Rattle.alw_msg.specs.declared.messages.Msg.{Msg}
use Rattle.alw_image.specs.declared.parts.Parts.{Parts}
use Rattle.alw_image.specs.Images.{line_count}
use Rattle.alw_model.specs.Messages.{home_node, is_at_home, is_fit}
use Rattle.alw_memory.proofs.Deliveries.{Says, Said, says}
use Rattle.alw_node.proofs.Given.{second}

pub fit_is_home : (parts : Parts) (from to : ℕ) (msg : Msg) → is_fit parts from to msg ≡ true → to_memory msg.kind ≡ true → msg.line.0 / parts.per_node ≡ to
fit_is_home parts from to msg fit goes = by_said (says msg goes)
  where
    by_said : Says msg → msg.line.0 / parts.per_node ≡ to
    by_said (Said said is) =
        let at_home = is_at_home (content msg) (home_node parts msg.line.0) from to in
        let low = nat_lt msg.stamp (2 ^ 32 - 1) in
        let exists = nat_lt msg.line.0 (line_count parts) in
        let there = second low at_home (second exists (low && at_home) (second (msg.src.0 == from) (exists && (low && at_home)) fit)) in
        eqb-true _ _ (ap (λ c. is_at_home c (home_node parts msg.line.0) from to) (sym is) ∙ there)
