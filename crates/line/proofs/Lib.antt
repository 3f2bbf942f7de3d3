mod Boundaries
