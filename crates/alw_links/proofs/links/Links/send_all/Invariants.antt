use Rattle.std.proofs.Common.{◌≡◌, ◌+◌, drop}
use Rattle.alw_links.specs.Traffic.{links_with_all}
use Rattle.alw_links.proofs.links.Links.send_all.Given as goal

-- what is left to send comes to what the whole list comes to
abbrev pub invariant-loop-i : goal.invariant-loop-i
invariant-loop-i l = record {
  nodes : l.self.nodes ≡ l.fn.self.nodes;
  room : l.self.room + l.i ≡ l.fn.self.room;
  links : links_with_all l.self.nodes l.self.links l.from.0 (drop l.i l.sends.messages)
      ≡ links_with_all l.fn.self.nodes l.fn.self.links l.from.0 l.sends.messages;
}
