-- The ports that words give nodes.
use Rattle.std.specs.{Prelude.ℕ, Prelude.List, Prelude.Option, Option.option_map, List.find}
use Rattle.dist_names.specs.Order.{Name, same_name}
use Rattle.distping_words.specs.declared.target_words.GivenPort.{GivenPort}

-- the port of the first of these that is the node's, if there is one
abbrev pub port_given : List GivenPort → Name → Option ℕ
port_given ports node = option_map (λ given. given.port) (find (λ given. same_name given.node node) ports)
