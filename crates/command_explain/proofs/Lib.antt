-- what is told of a complex event
mod Telling
-- the events were not read to their end
mod Stopped
