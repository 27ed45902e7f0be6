-- The words of the crates below and of the definitions here that several proofs cite, passed on from one place.
pub use Rattle.std.proofs.lemmas.Bool.{cond-false, cond-true, le-ltb, lt-ltb, ne_eqb, and_parts, eq-eqb, eqb-true, not-false, not-true, or_parts}
pub use Rattle.std.proofs.lemmas.List.{take_at, drop_at, append-nil, take-append-le}
pub use Rattle.std.specs.{BTreeMap.BTreeMap, BTreeMap.get, BTreeMap.Updates, BTreeMap.IsOrdered, Int.w16, Int.from_be_bytes, Int.to_be_bytes}
pub use Rattle.std.specs.{List.AllByRecursion, List.concat, List.list_any, List.position_or_len, List.filter_map, Ordering.nat_cmp, Ordering.eq_by_cmp}
pub use Rattle.dist_epmd.specs.{Reading.read_request, Reading.info_at, declared.message.NodeInfo.NodeInfo, declared.message.Request.Request}
pub use Rattle.dist_epmd_calls.specs.Serving.{served_as}
pub use Rattle.dist_frames.specs.Stream.{body_frame}
pub use Rattle.dist_epmd_clients.specs.declared.question.Question.TheVariants.{Inside, Nothing, Asks}
pub use Rattle.dist_epmd_clients.specs.Clients.{new_client, Keeps}
pub use Rattle.dist_epmd_clients.specs.declared.client.{Client.Client, Talk.Talk, Talk.TheVariants.Asking, Talk.TheVariants.Registered}
