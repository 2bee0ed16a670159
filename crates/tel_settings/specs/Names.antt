-- The options of the command.

pub data Name : Type 0 where
  Imin : Name
  Imax : Name
  Istop : Name
  Models : Name
  Conflicts : Name
  Generate : Name
