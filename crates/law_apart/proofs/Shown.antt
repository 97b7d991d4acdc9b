-- Pictures are times of a machine, and what they show of a node is what the node sees.
use Rattle.std.proofs.Common.{◌≡◌, ℕ, zero, suc, ◌+◌, ◌*◌, List, [], ◌∷◌, length, slice_index_or, append-nil, refl, sym, subst, ◌∙◌, arith}
use Rattle.std.specs.List.{AllByRecursion}
use Rattle.alw_num.proofs.Weigh.{is_node}
use Rattle.alw_msg.specs.declared.messages.Msg.{Msg}
use Rattle.alw_image.specs.declared.parts.Parts.{Parts}
use Rattle.alw_image.specs.Parameters.{Parameters}
use Rattle.alw_model.specs.Machine.{no_node, link_at, link_place}
use Rattle.law_order.specs.Aims.{IsAimed}
use Rattle.alw_mesh.specs.Histories.{History, IsRun}
use Rattle.alw_times.specs.declared.costs.Costs.{Costs}
use Rattle.alw_times.specs.Times.{queue_at}
use Rattle.alw_due.proofs.Left as left
use Rattle.law_times.proofs.Beside.{Beside, none, more, beside_at}
use Rattle.law_times.proofs.Counted.{AreAsMany, SlotsFit}
use Rattle.law_times.proofs.Orders.{AreTimesOf}
use Rattle.law_windows.specs.Windows.{GoOnFrom}
use Rattle.law_windows.proofs.Messages.{go_none}
use Rattle.law_windows.proofs.Same.{SameAt}
use Rattle.law_windows.proofs.Sees.{Sees, LinkGoesOn}
use Rattle.law_apart.specs.Pictures.{Picture, picture_of, AreSameAt, IsPicture, ShowsItself, ShowsBelow}

-- ---- times of a machine

beside_of : (xs : List (List ℕ)) (ys : List (List Msg)) → length xs ≡ length ys → ((k : ℕ) → length (queue_at xs k) ≡ length (slice_index_or ys k [])) → Beside AreAsMany xs ys
beside_of [] [] long each = none
beside_of [] (y ∷ ys) long each = absurd (omega (arith, long))
beside_of (x ∷ xs) [] long each = absurd (omega (arith, long))
beside_of (x ∷ xs) (y ∷ ys) long each = more (each zero) (beside_of xs ys (omega (arith, long)) (λ k. each (suc k)))

beside_long : (xs : List (List ℕ)) (ys : List (List Msg)) → Beside AreAsMany xs ys → length xs ≡ length ys
beside_long [] [] all = refl
beside_long (x ∷ xs) (y ∷ ys) (more is rest) = let long = beside_long xs ys rest in omega (arith, long)
beside_long [] (y ∷ ys) never = elim never [ ]
beside_long (x ∷ xs) [] never = elim never [ ]

pub beside_by : (image : Parts) (picture : Picture) → IsPicture image picture → Beside AreAsMany picture.times.arrivals picture.state.links
beside_by image picture is = beside_of picture.times.arrivals picture.state.links is.queues is.arrivals

pub picture_by : (image : Parts) (picture : Picture) → IsAimed image picture.state → Beside AreAsMany picture.times.arrivals picture.state.links →
    AllByRecursion (SlotsFit image) picture.state.nodes → IsPicture image picture
picture_by image picture aimed many slots = record {
  aimed = aimed;
  queues = beside_long picture.times.arrivals picture.state.links many;
  arrivals = λ place. beside_at AreAsMany picture.times.arrivals picture.state.links place [] [] refl many;
  slots = slots;
}

module _ (image : Parts) (parameters : Parameters) (costs : Costs) where
  pub are_of : (picture : Picture) → IsPicture image picture → AreTimesOf image parameters costs picture.times picture.state
  are_of picture is = record { aimed = is.aimed; arrivals = beside_by image picture is; slots = is.slots }

  pub picture_is : (picture : Picture) → AreTimesOf image parameters costs picture.times picture.state → IsPicture image picture
  picture_is picture are = picture_by image picture are.aimed are.arrivals are.slots

-- a machine is one
pub machine_is : (h : History) (costs : Costs) → IsRun h → IsPicture h.image (picture_of h costs)
machine_is h costs run = picture_is h.image h.parameters costs (picture_of h costs) (left.times_are_of h.image h.parameters costs h.journal run.legal)

-- ---- what is shown is seen

module _ {X : Type 0} (d : X) where
  same_of : (p : ℕ) (xs ys : List X) → AreSameAt d p xs ys → SameAt d p xs ys
  same_of p xs ys same = record { long = same.long; here = same.here }

  of_same : (p : ℕ) (xs ys : List X) → SameAt d p xs ys → AreSameAt d p xs ys
  of_same p xs ys same = record { long = same.long; here = same.here }

module _ (image : Parts) (n : ℕ) (whole part : Picture) where
  abbrev pub SeesPart : ℕ → Type 0
  SeesPart bound = Sees image n bound whole.state whole.times part.state part.times

  pub sees_of : (bound : ℕ) → ShowsBelow image n bound whole part → SeesPart bound
  sees_of bound shows = record {
    nodes = same_of no_node n whole.state.nodes part.state.nodes own.nodes;
    starts = same_of 0 n whole.times.starts part.times.starts own.starts;
    processors = same_of 0 n whole.times.processors part.times.processors own.processors;
    controllers = same_of 0 n whole.times.controllers part.times.controllers own.controllers;
    ports = same_of 0 n whole.times.ports part.times.ports own.ports;
    draws = same_of 0 n whole.times.draws part.times.draws own.draws;
    wakes = λ p is. subst (λ (q : ℕ). SameAt 0 q whole.times.wakes part.times.wakes) (sym is.1.1) (same_of 0 (n * image.contexts + is.0) whole.times.wakes part.times.wakes (own.wakes is.0 is.1.0));
    packets = same_of [] n whole.times.packets part.times.packets own.packets;
    own_arrivals = same_of [] (link_place image n n) whole.times.arrivals part.times.arrivals own.arrivals;
    own_link = own.link;
    links = λ from sender. is_node (LinkGoesOn image n bound from whole.state whole.times part.state part.times) from n
        (λ same. subst (λ (k : ℕ). LinkGoesOn image n bound k whole.state whole.times part.state part.times) (sym same) own_on)
        (λ other. let on = shows.links from sender other in record { arrivals = on.arrivals; more = on.more; link = on.link });
  }
    where
      own : ShowsItself image n whole part
      own = shows.itself

      own_on : LinkGoesOn image n bound n whole.state whole.times part.state part.times
      own_on = let queue = queue_at part.times.arrivals (link_place image n n) in record {
        arrivals = subst (λ (all : List ℕ). GoOnFrom bound queue all) (sym own.arrivals.here) (go_none bound queue);
        more = [];
        link = own.link ∙ sym (append-nil (link_at image part.state n n));
      }

  pub itself_of : (bound : ℕ) → SeesPart bound → ShowsItself image n whole part
  itself_of bound sees = record {
    nodes = of_same no_node n whole.state.nodes part.state.nodes sees.nodes;
    starts = of_same 0 n whole.times.starts part.times.starts sees.starts;
    processors = of_same 0 n whole.times.processors part.times.processors sees.processors;
    controllers = of_same 0 n whole.times.controllers part.times.controllers sees.controllers;
    ports = of_same 0 n whole.times.ports part.times.ports sees.ports;
    draws = of_same 0 n whole.times.draws part.times.draws sees.draws;
    wakes = λ slot fits. let place = n * image.contexts + slot in of_same 0 place whole.times.wakes part.times.wakes (sees.wakes place (slot, (fits, refl)));
    packets = of_same [] n whole.times.packets part.times.packets sees.packets;
    arrivals = of_same [] (link_place image n n) whole.times.arrivals part.times.arrivals sees.own_arrivals;
    link = sees.own_link;
  }

  pub shows_of : (bound : ℕ) → SeesPart bound → ShowsBelow image n bound whole part
  shows_of bound sees = record {
    itself = itself_of bound sees;
    links = λ from sender other. let on = sees.links from sender in record { more = on.more; link = on.link; arrivals = on.arrivals };
  }
